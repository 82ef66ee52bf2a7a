-- Which numbers of sets are below a power of 2.
use Rattle.std.proofs.Common.{◌≡◌, ℕ, zero, suc, ◌+◌, ◌-◌, ◌^◌, ◌<◌, ◌≤◌, nat_lt, ⊎_elim, List, [], ◌∷◌, length, get_or, sym, ◌∙◌, arith}
use Rattle.std.proofs.lemmas.Bool.{cases_lt, le-ltb, lt-ltb}
use Rattle.std.proofs.lemmas.List.Sums.{get_or-le-sum_by, sum_by-cons}
use Rattle.std.proofs.Math.Nat.{pow-le-pow_right, pow-suc}
use Rattle.ms_logic.specs.FiniteSet.{IsRising}
use Rattle.ms_logic.specs.Lists.{Each}
use Rattle.ms_report.specs.Numbers.{number_of_set}
use Rattle.ms_report.proofs.Digits.{IsFrom, from-behind, from-none}

up : (i j : ℕ) → i ≤ j → 2 ^ i ≤ 2 ^ j
up i j low = let two : 0 < 2 = omega arith in pow-le-pow_right two low

-- a number is at least the power of each member
reaches : (members : List ℕ) (i k : ℕ) → i < length members → k ≤ get_or members i 0 → 2 ^ k ≤ number_of_set members
reaches members i k within high = omega (arith, up k (get_or members i 0) high, get_or-le-sum_by (λ j. 2 ^ j) members i 0 within)

-- each place of a number below 2 ^ 128 is below 128
pub small-place : (members : List ℕ) (i : ℕ) → i < length members → number_of_set members < 2 ^ 128 → get_or members i 0 < 128
small-place members i within small =
    ⊎_elim (λ low. low) (λ high. absurd (omega (arith, reaches members i 128 within high, small))) (cases_lt (get_or members i 0) 128)

-- each member is at most the last
all-low : (members : List ℕ) (k b : ℕ) → IsRising members → suc k ≡ length members → get_or members k 0 < b → Each (λ i. i < b) members
all-low [] k b rises last low = tt
all-low (i ∷ []) zero b rises last low = (low, tt)
all-low (i ∷ []) (suc k) b rises last low = absurd (omega (arith, last))
all-low (i ∷ j ∷ more) zero b rises last low = absurd (omega (arith, last))
all-low (i ∷ j ∷ more) (suc k) b rises last low =
    let rest = all-low (j ∷ more) k b rises.1 (omega (arith, last)) low in
    (omega (arith, rises.0, rest.0), rest)

-- members from p on and below b
within-powers : (p b : ℕ) (members : List ℕ) → p ≤ b → IsRising members → Each (λ i. i < b) members → IsFrom p members → number_of_set members + 2 ^ p ≤ 2 ^ b
within-powers p b [] low rises below from = omega (arith, up p b low)
within-powers p b (i ∷ more) low rises below from =
    omega (
      arith,
      sum_by-cons (λ j. 2 ^ j) i more,
      within-powers (suc i) b more below.0 rises.1 below.1 (from-behind (suc i) i more (omega arith) rises.0),
      up p i from,
      pow-suc 2 i,
    )

-- the number is below 2 ^ b where the last member is below b
below-power : (members : List ℕ) (b : ℕ) → IsRising members → 0 < length members → get_or members (length members - 1) 0 < b → number_of_set members < 2 ^ b
below-power members b rises some low =
    let all = all-low members (length members - 1) b rises (omega (arith, some)) low in
    omega (arith, within-powers 0 b members (omega arith) rises all (from-none members))

pub decimal-by-last : (members : List ℕ) → IsRising members → 0 < length members → nat_lt (get_or members (length members - 1) 0) 128 ≡ nat_lt (number_of_set members) (2 ^ 128)
decimal-by-last members rises some =
    let last = get_or members (length members - 1) 0 in
    ⊎_elim
    (λ low. lt-ltb last 128 low ∙ sym (lt-ltb (number_of_set members) (2 ^ 128) (below-power members 128 rises some low)))
    (λ high. le-ltb last 128 high ∙ sym (le-ltb (number_of_set members) (2 ^ 128) (reaches members (length members - 1) 128 (omega (arith, some)) high)))
    (cases_lt last 128)
