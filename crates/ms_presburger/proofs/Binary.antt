-- Digits of numbers, as tests of places: each number has one expansion, and each finite set is one.
use Rattle.std.proofs.Common.{◌≡◌, ℕ, ◌+◌, ◌*◌, ◌^◌, ◌/◌, ◌%◌, ◌<◌, ◌≤◌, ◌==◌, zero, suc, Bool, true, false, ◌||◌, ◌&&◌, ◌⊎◌, ◌↔◌, inl, inr, ⊎_elim, List, [], ◌∷◌, filter, refl, sym, ◌∙◌, ap, subst, arith}
use Rattle.std.specs.Int.{bit_at}
use Rattle.std.proofs.lemmas.Bool.{cases_lt}
use Rattle.std.proofs.lemmas.Bool.Decides.{nat_tests}
use Rattle.std.proofs.lemmas.Nat.{mod-pow-add, pow-add}
use Rattle.std.proofs.Math.Nat.{mod-eq_of_lt, pow-suc}
use Rattle.ms_logic.specs.Letters.{bound_of_set}
use Rattle.ms_logic.specs.FiniteSet.{is_member, IsRising, numbers_below, one_bits, moved_up}
use Rattle.ms_logic.proofs.Members.{is_member-filter, is_member-range, IsRising-filter, IsRising-range, below_first-below, no_member_from_bound}
use Rattle.ms_logic.proofs.SetLaws.{one_bits_law, sets_are_their_members}
use Rattle.ms_presburger.specs.Digits.{number_of}

-- what a digit at a place counts
abbrev pub weight : Bool → ℕ → ℕ
weight true k = 2 ^ k
weight false k = 0

-- the number of the digits below a place
abbrev pub low : (ℕ → Bool) → ℕ → ℕ
low a zero = 0
low a (suc k) = weight (a k) k + low a k

pub weight-le : (b : Bool) (k : ℕ) → weight b k ≤ 2 ^ k
weight-le true k = omega arith
weight-le false k = omega arith

pub low-lt : (a : ℕ → Bool) (k : ℕ) → low a k < 2 ^ k
low-lt a zero = omega arith
low-lt a (suc k) = omega (arith, weight-le (a k) k, low-lt a k, pow-suc 2 k)

-- the same digits give the same number
pub low-same : (a b : ℕ → Bool) (k : ℕ) → ((i : ℕ) → i < k → a i ≡ b i) → low a k ≡ low b k
low-same a b zero same = refl
low-same a b (suc k) same =
    let here = ap (λ d. weight d k) (same k (omega arith)) in
    let there = low-same a b k (λ i below. same i (omega (arith, below))) in omega (arith, here, there)

same-parts : (x y : Bool) (k p q : ℕ) → p < 2 ^ k → q < 2 ^ k → weight x k + p ≡ weight y k + q → (x ≡ y) × (p ≡ q)
same-parts true true k p q left right same = (refl, omega arith)
same-parts true false k p q left right same = absurd (omega arith)
same-parts false true k p q left right same = absurd (omega arith)
same-parts false false k p q left right same = (refl, omega arith)

-- the same number has the same digits
pub digits-same : (a b : ℕ → Bool) (k : ℕ) → low a k ≡ low b k → (i : ℕ) → i < k → a i ≡ b i
digits-same a b zero same i below = absurd (omega (arith, below))
digits-same a b (suc k) same i below =
    let parts = same-parts (a k) (b k) k (low a k) (low b k) (low-lt a k) (low-lt b k) same in
    ⊎_elim (λ lower. digits-same a b k parts.1 i lower)
    (λ above. let is : k ≡ i = omega (arith, above, below) in let P : ℕ → Type 0 = λ n. a n ≡ b n in subst P is parts.0) (cases_lt i k)

-- no digits behind a place add nothing
pub low-beyond : (a : ℕ → Bool) (k n : ℕ) → ((i : ℕ) → k ≤ i → a i ≡ false) → low a (n + k) ≡ low a k
low-beyond a k zero none = ap (low a) (omega arith)
low-beyond a k (suc n) none =
    let here = ap (λ d. weight d (n + k)) (none (n + k) (omega arith)) in
    let next : suc n + k ≡ suc (n + k) = omega arith in
    ap (low a) next ∙ omega (arith, here, low-beyond a k n none)

-- a set has a digit at each member
abbrev pub digits_of : List ℕ → ℕ → Bool
digits_of members i = is_member i members

-- one more digit
low-with : (m : ℕ → Bool) (i k : ℕ) → m i ≡ false → i < k → low (λ p. (i == p) || m p) k ≡ 2 ^ i + low m k
low-with m i zero none below = absurd (omega (arith, below))
low-with m i (suc k) none below =
    ⊎_elim (λ lower.
    let other : ((i == k) || m k) ≡ m k = grind (arith, nat_tests) in
    omega (arith, ap (λ d. weight d k) other, low-with m i k none lower))
    (λ above.
    let is : i ≡ k = omega (arith, above, below) in
    let here : ((i == k) || m k) ≡ true = grind (arith, nat_tests) in
    let empty : m k ≡ false = ap m (sym is) ∙ none in
    let rest = low-same (λ p. (i == p) || m p) m k (λ p lower. let other : (i == p) ≡ false = grind (arith, nat_tests) in ap (λ t. t || m p) other) in
    omega (arith, ap (λ d. weight d k) here, ap (λ d. weight d k) empty, rest, ap (λ n. 2 ^ n) is)) (cases_lt i k)

-- a member is below each place from which on there is none
member-below : (members : List ℕ) (i k : ℕ) → is_member i members ≡ true → ((p : ℕ) → k ≤ p → is_member p members ≡ false) → i < k
member-below members i k member none =
    ⊎_elim (λ below. below) (λ above. let never = none i above in absurd cc) (cases_lt i k)

-- the first of a set is no later member
first-once : (i : ℕ) (more : List ℕ) → IsRising (i ∷ more) → is_member i more ≡ false
first-once i more rises =
    (elim (is_member i more) as (λ test. is_member i more ≡ test → test ≡ false) [
      | true ↦ λ member. absurd (omega (arith, below_first-below i i more rises.1 rises.0 member))
      | false ↦ λ _. refl
    ]) refl

pub low-members : (members : List ℕ) (k : ℕ) → IsRising members → ((p : ℕ) → k ≤ p → is_member p members ≡ false) → low (digits_of members) k ≡ number_of members
low-members [] k rises none = low-none k
  where
    low-none : (k : ℕ) → low (λ p. false) k ≡ 0
    low-none zero = refl
    low-none (suc k) = omega (arith, low-none k)
low-members (i ∷ more) k rises none =
    let there : is_member i (i ∷ more) ≡ true = grind (arith, nat_tests) in
    let below = member-below (i ∷ more) i k there none in
    let others = low-members more k rises.1 (λ p above. let never = none p above in grind (arith, nat_tests)) in
    low-with (digits_of more) i k (first-once i more rises) below ∙ ap (λ n. 2 ^ i + n) others

-- from the bound of a set on
pub low-set : (members : List ℕ) (k : ℕ) → IsRising members → bound_of_set members ≤ k → low (digits_of members) k ≡ number_of members
low-set members k rises above = low-members members k rises (λ p from. no_member_from_bound members p (omega (arith, from, above)))

-- sets of one number are one
pub number_of-unique : (left right : List ℕ) → IsRising left → IsRising right → number_of left ≡ number_of right → left ≡ right
number_of-unique left right rises rises' same =
    let k = bound_of_set left + bound_of_set right in
    let equal : low (digits_of left) k ≡ low (digits_of right) k = low-set left k rises (omega arith) ∙ (same ∙ sym (low-set right k rises' (omega arith))) in
    let each : (p : ℕ) → is_member p left ≡ is_member p right = λ p.
    ⊎_elim (λ below. digits-same (digits_of left) (digits_of right) k equal p below)
    (λ above. no_member_from_bound left p (omega (arith, above)) ∙ sym (no_member_from_bound right p (omega (arith, above)))) (cases_lt p k) in
    sets_are_their_members left right rises rises' (λ p. ((λ member. sym (each p) ∙ member), (λ member. each p ∙ member)))

-- the set of the digits below a place
abbrev pub digits_below : (ℕ → Bool) → ℕ → List ℕ
digits_below a k = filter a (numbers_below k)

pub rising-digits : (a : ℕ → Bool) (k : ℕ) → IsRising (digits_below a k)
rising-digits a k = IsRising-filter a (numbers_below k) (IsRising-range 0 k)

pub member-digits : (a : ℕ → Bool) (k p : ℕ) → ((i : ℕ) → k ≤ i → a i ≡ false) → is_member p (digits_below a k) ≡ a p
member-digits a k p none =
    is_member-filter p a (numbers_below k)
    ∙ (ap (λ t. t && a p) (is_member-range p 0 k)
    ∙ ⊎_elim (λ below. grind (arith, nat_tests)) (λ above. let empty = none p above in grind (arith, nat_tests)) (cases_lt p k))

pub number_of-digits : (a : ℕ → Bool) (k : ℕ) → ((i : ℕ) → k ≤ i → a i ≡ false) → number_of (digits_below a k) ≡ low a k
number_of-digits a k none =
    sym (low-members (digits_below a k) k (rising-digits a k) (λ p above. member-digits a k p none ∙ none p above))
    ∙ low-same (digits_of (digits_below a k)) a k (λ i below. member-digits a k i none)

-- the bits of a number

bit-weight : (n k : ℕ) → weight (bit_at n k == 1) k + n % 2 ^ k ≡ n % 2 ^ suc k
bit-weight n k =
    let exponent : 1 + k ≡ suc k = omega arith in
    let next = sym (ap (λ m. n % 2 ^ m) exponent) ∙ mod-pow-add n 1 k in
    ⊎_elim (λ (zero_bit : bit_at n k < 1).
    let is : bit_at n k ≡ 0 = omega (arith, zero_bit) in
    let failed : (bit_at n k == 1) ≡ false = grind (arith, nat_tests) in
    let product : (n / 2 ^ k % 2) * 2 ^ k ≡ 0 * 2 ^ k = ap (λ b. b * 2 ^ k) is in
    omega (arith, ap (λ d. weight d k) failed, next, product))
    (λ (one_bit : 1 ≤ bit_at n k).
    let is : bit_at n k ≡ 1 = omega arith in
    let passed : (bit_at n k == 1) ≡ true = grind (arith, nat_tests) in
    let product : (n / 2 ^ k % 2) * 2 ^ k ≡ 1 * 2 ^ k = ap (λ b. b * 2 ^ k) is in
    omega (arith, ap (λ d. weight d k) passed, next, product)) (cases_lt (bit_at n k) 1)

low-bits : (n k : ℕ) → low (λ i. bit_at n i == 1) k ≡ n % 2 ^ k
low-bits n zero = omega arith
low-bits n (suc k) = ap (λ m. weight (bit_at n k == 1) k + m) (low-bits n k) ∙ bit-weight n k

-- the places of the one bits of a number are its set
pub number_of-one_bits : (n : ℕ) → number_of (one_bits n) ≡ n
number_of-one_bits n =
    let law = one_bits_law n in
    let k = n + bound_of_set (one_bits n) in
    let small : n < 2 ^ k = place-lt-power n k (omega arith) in
    let same = low-same (digits_of (one_bits n)) (λ i. bit_at n i == 1) k (λ i below. same-tests (is_member i (one_bits n)) (bit_at n i) (law.exactly i)) in
    sym (low-set (one_bits n) k law.rising (omega arith)) ∙ (same ∙ (low-bits n k ∙ mod-eq_of_lt small))
  where
    place-lt-power : (n k : ℕ) → n ≤ k → n < 2 ^ k
    place-lt-power n zero below = omega arith
    place-lt-power zero (suc k) below = omega (arith, place-lt-power zero k (omega arith), pow-suc 2 k)
    place-lt-power (suc n) (suc k) below = omega (arith, place-lt-power n k (omega (arith, below)), pow-suc 2 k)

    equal-or : (n : ℕ) → (n ≡ 1) ⊎ ((n == 1) ≡ false)
    equal-or zero = inr refl
    equal-or (suc zero) = inl refl
    equal-or (suc (suc n)) = inr (grind (arith, nat_tests))

    same-tests : (b : Bool) (n : ℕ) → (b ≡ true) ↔ (n ≡ 1) → b ≡ (n == 1)
    same-tests true n same = let one = same.0 refl in grind (arith, nat_tests)
    same-tests false n same = ⊎_elim (λ is. let never = same.1 is in absurd cc) (λ other. sym other) (equal-or n)

-- each number has a set
pub set_of_number : (n : ℕ) → (members : List ℕ) × IsRising members × (number_of members ≡ n)
set_of_number n = (one_bits n, (one_bits_law n).rising, number_of-one_bits n)

-- a set moved up counts a power of two times as much
pub number_of-moved_up : (j : ℕ) (members : List ℕ) → number_of (moved_up j members) ≡ 2 ^ j * number_of members
number_of-moved_up j [] = omega arith
number_of-moved_up j (i ∷ more) = omega (arith, pow-add 2 i j, number_of-moved_up j more)

-- the empty set alone counts 0
pub number_of-positive : (i : ℕ) (more : List ℕ) → 0 < number_of (i ∷ more)
number_of-positive i more = omega (arith, low-lt (λ p. false) i)
