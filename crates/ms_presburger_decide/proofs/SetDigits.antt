-- The binary digits of the number of a set: its members are the places of the one bits.
use Rattle.std.proofs.Common.{◌≡◌, ℕ, zero, suc, ◌+◌, ◌^◌, ◌<◌, ◌≤◌, ◌==◌, Bool, true, false, ◌↔◌, ⊎_elim, List, [], ◌∷◌, refl, sym, ap, ◌∙◌, arith}
use Rattle.std.specs.Int.{bit_at}
use Rattle.std.specs.Int.Digits.{digits_of}
use Rattle.std.proofs.lemmas.Bool.{cases_lt}
use Rattle.std.proofs.lemmas.Bool.Decides.{nat_tests}
use Rattle.std.proofs.lemmas.Int.Digits.{all_below_base_digits_of, length-digits_of-le, number_digits_of, number_lt}
use Rattle.std.proofs.lemmas.List.Recursion.{is_sum_by}
use Rattle.std.proofs.Math.Nat.{pow-le-pow_right}
use Rattle.ms_logic.specs.FiniteSet.{IsRising, is_member, one_bits}
use Rattle.ms_logic.specs.Letters.{bound_of_set}
use Rattle.ms_logic.proofs.SetLaws.{one_bits_law}
use Rattle.ms_presburger.specs.Digits.{number_of}
use Rattle.ms_presburger.proofs.Binary.{low-lt, low-set, number_of-one_bits, number_of-unique}
use Rattle.ms_presburger.proofs.Binary as binary
use Rattle.ms_presburger_decide.specs.Answer.{digits}
use Rattle.ms_report.specs.Numbers.{number_of_set}

-- the number of a set, as reports have it
pub same-number : (members : List ℕ) → number_of_set members ≡ number_of members
same-number members = sym (is_sum_by number_of (λ i. 2 ^ i) refl (λ i more. refl) members)

test-of-one : (b : Bool) (n : ℕ) → (b ≡ true) ↔ (n ≡ 1) → b ≡ (n == 1)
test-of-one true n same = let one = same.0 refl in grind (arith, nat_tests)
test-of-one false n same = by-test (n == 1) refl
  where
    by-test : (t : Bool) → (n == 1) ≡ t → false ≡ t
    by-test false is = refl
    by-test true is = let one : n ≡ 1 = grind (arith, nat_tests) in same.1 one

-- a place is a member where the bit there is 1
pub member-is-bit : (members : List ℕ) (i : ℕ) → IsRising members → is_member i members ≡ (bit_at (number_of members) i == 1)
member-is-bit members i rises =
    let n = number_of members in
    let law = one_bits_law n in
    let same : members ≡ one_bits n = number_of-unique members (one_bits n) rises law.rising (sym (number_of-one_bits n)) in
    ap (is_member i) same ∙ test-of-one (is_member i (one_bits n)) (bit_at n i) (law.exactly i)

up : (i j : ℕ) → i ≤ j → 2 ^ i ≤ 2 ^ j
up i j low = let two : 0 < 2 = omega arith in pow-le-pow_right two low

-- how many digits a number has
pub digits-most : (n k : ℕ) → n < 2 ^ k → digits n ≤ k
digits-most n k small = length-digits_of-le 2 k n (omega arith) small

below-digits : (n : ℕ) → n < 2 ^ digits n
below-digits n = omega (arith, number_lt 2 (digits_of 2 n) (all_below_base_digits_of 2 n (omega arith)), number_digits_of 2 n (omega arith))

pub digits-least : (n k : ℕ) → 2 ^ k ≤ n → k < digits n
digits-least n k large =
    ⊎_elim (λ less. less) (λ few. absurd (omega (arith, up (digits n) k few, below-digits n, large))) (cases_lt k (digits n))

pub digits-within : (n k : ℕ) → digits n ≤ k → n < 2 ^ k
digits-within n k few = omega (arith, below-digits n, up (digits n) k few)

-- a number is at least the power of the greatest member
reaches : (members : List ℕ) (p : ℕ) → bound_of_set members ≡ suc p → 2 ^ p ≤ number_of members
reaches [] p is = absurd (omega (arith, is))
reaches (i ∷ more) p is =
    ⊎_elim (λ later. omega (arith, reaches more p (omega (arith, is, later))))
    (λ first. omega (arith, up p i (omega (arith, is, first)))) (cases_lt (i + 1) (bound_of_set more))

-- the bound of a set is how many digits its number has
pub bound-is-digits : (members : List ℕ) → IsRising members → bound_of_set members ≡ digits (number_of members)
bound-is-digits members rises =
    let below : number_of members < 2 ^ bound_of_set members = omega (arith, low-lt (binary.digits_of members) (bound_of_set members), low-set members (bound_of_set members) rises (omega arith)) in
    omega (arith, digits-most (number_of members) (bound_of_set members) below, at-least (bound_of_set members) refl)
  where
    at-least : (k : ℕ) → bound_of_set members ≡ k → k ≤ digits (number_of members)
    at-least zero is = omega arith
    at-least (suc p) is = omega (arith, digits-least (number_of members) p (reaches members p is))
