-- Sets of the numbers below a count that pass a test, their members and bounds.
use Rattle.std.proofs.Common.{◌≡◌, ℕ, zero, suc, ◌+◌, ◌-◌, ◌^◌, ◌<◌, ◌≤◌, ◌==◌, ◌&&◌, ⊎_elim, Bool, true, false, cond, ltb, leb, List, [], ◌∷◌, map, filter, refl, sym, ap, ap₂, ◌∙◌, arith}
use Rattle.std.specs.List.{range_with_len}
use Rattle.std.specs.Int.{bit_at}
use Rattle.std.proofs.lemmas.Bool.{cases_eq, eqb-true, eq-eqb, le-leb}
use Rattle.std.proofs.lemmas.Bool.Decides.{nat_tests}
use Rattle.std.proofs.lemmas.Nat.Bits.{bit_at-lt, same_from_bits_below}
use Rattle.ms_logic.specs.FiniteSet.{IsRising, is_member, moved_down, moved_up, numbers_below}
use Rattle.ms_logic.specs.Letters.{bound_of_set}
use Rattle.ms_logic.specs.Terms.{part_within}
use Rattle.ms_logic.specs.declared.mode.Mode.{Mode}
use Rattle.ms_logic.specs.declared.mode.Mode.TheVariants.{Ws1s, M2lStr}
use Rattle.ms_logic.proofs.Members.{IsRising-filter, IsRising-range, is_member-filter, is_member-range}
use Rattle.ms_basic.specs.Bits.{is_one}
use Rattle.ms_basic_parts.proofs.FoolingSets.{universe_for}

-- the numbers below a count that pass a test
abbrev pub chosen : (ℕ → Bool) → ℕ → List ℕ
chosen test count = filter test (numbers_below count)

pub member_chosen : (test : ℕ → Bool) (count k : ℕ) → k < count → is_member k (chosen test count) ≡ test k
member_chosen test count k less =
    let above : leb 0 k ≡ true = le-leb 0 k (omega arith) in
    let below : ltb k (0 + count) ≡ true = le-leb (suc k) (0 + count) (omega (arith, less)) in
    is_member-filter k test (numbers_below count)
    ∙ ap (λ there. there && test k) (is_member-range k 0 count ∙ ap₂ (λ one two. one && two) above below)

pub none_chosen : (test : ℕ → Bool) (count k : ℕ) → count ≤ k → is_member k (chosen test count) ≡ false
none_chosen test count k past =
    let there : is_member k (numbers_below count) ≡ false = is_member-range k 0 count ∙ grind (arith, nat_tests, past) in
    is_member-filter k test (numbers_below count) ∙ ap (λ within. within && test k) there

pub rising_chosen : (test : ℕ → Bool) (count : ℕ) → IsRising (chosen test count)
rising_chosen test count = IsRising-filter test (numbers_below count) (IsRising-range 0 count)

-- a filter raises no bound
bound-filter : (test : ℕ → Bool) (members : List ℕ) (count : ℕ) → bound_of_set members ≤ count → bound_of_set (filter test members) ≤ count
bound-filter test [] count below = omega arith
bound-filter test (first ∷ more) count below = by_test (test first) (bound-filter test more count (omega (arith, below)))
  where
    by_test : (passes : Bool) → bound_of_set (filter test more) ≤ count → bound_of_set (cond passes (first ∷ filter test more) (filter test more)) ≤ count
    by_test true others = omega (arith, below, others)
    by_test false others = others

bound-range : (start count : ℕ) → bound_of_set (range_with_len start count) ≤ start + count
bound-range start zero = omega arith
bound-range start (suc count) = let others = bound-range (start + 1) count in omega (arith, others)

pub bound_chosen : (test : ℕ → Bool) (count : ℕ) → bound_of_set (chosen test count) ≤ count
bound_chosen test count = bound-filter test (numbers_below count) count (let all = bound-range 0 count in omega (arith, all))

pub bound-moved_up : (by : ℕ) (members : List ℕ) → bound_of_set (moved_up by members) ≤ by + bound_of_set members
bound-moved_up by [] = omega arith
bound-moved_up by (first ∷ more) = let others = bound-moved_up by more in omega (arith, others)

-- up and down again
pub down_again : (by : ℕ) (members : List ℕ) → moved_down by (moved_up by members) ≡ members
down_again by [] = refl
down_again by (first ∷ more) =
    let kept : leb by (first + by) ≡ true = le-leb by (first + by) (omega arith) in
    let back : first + by - by ≡ first = omega arith in
    ap (λ passes. map (λ m. m - by) (cond passes ((first + by) ∷ filter (λ m. leb by m) (moved_up by more)) (filter (λ m. leb by m) (moved_up by more)))) kept
    ∙ ap₂ (λ (n : ℕ) (others : List ℕ). n ∷ others) back (down_again by more)

-- a set that the string has room for is within it
pub all_within : (mode : Mode) (count : ℕ) (members : List ℕ) → bound_of_set members ≤ count → part_within (universe_for mode count) members ≡ members
all_within Ws1s count [] room = refl
all_within Ws1s count (first ∷ more) room = ap (λ (others : List ℕ). first ∷ others) (all_within Ws1s count more (omega (arith, room)))
all_within M2lStr count [] room = refl
all_within M2lStr count (first ∷ more) room =
    let kept : ltb first count ≡ true = le-leb (suc first) count (omega (arith, room)) in
    ap (λ passes. cond passes (first ∷ filter (λ n. ltb n count) more) (filter (λ n. ltb n count) more)) kept
    ∙ ap (λ (others : List ℕ). first ∷ others) (all_within M2lStr count more (omega (arith, room)))

-- two bits that are both 1 or both not
same_bit : (a b : ℕ) → a < 2 → b < 2 → (a == 1) ≡ (b == 1) → a ≡ b
same_bit a b small_a small_b same = ⊎_elim
    (λ one. one ∙ sym (eqb-true b 1 (sym same ∙ eq-eqb a 1 one)))
    (λ none. ⊎_elim
    (λ one. absurd (none (eqb-true a 1 (same ∙ eq-eqb b 1 one))))
    (λ also. omega (arith, small_a, small_b, none, also))
    (cases_eq b 1))
    (cases_eq a 1)

-- numbers of n bits with the same one bits are equal
pub same_ones : (n i j : ℕ) → i < 2 ^ n → j < 2 ^ n → chosen (is_one i) n ≡ chosen (is_one j) n → i ≡ j
same_ones n i j less_i less_j same =
    same_from_bits_below n i j less_i less_j (λ p less.
    same_bit (bit_at i p) (bit_at j p) (bit_at-lt i p) (bit_at-lt j p)
    (sym (member_chosen (is_one i) n p less) ∙ (ap (is_member p) same ∙ member_chosen (is_one j) n p less)))
