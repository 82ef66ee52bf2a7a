-- Numbers that leave different remainders by 2, and all numbers.
use Rattle.std.proofs.Common.{◌≡◌, ℕ, zero, suc, ◌<◌, ◌≤◌, ◌%◌, ⊎_elim, List, [], ◌∷◌, length, slice_index_or, Any, Contains, refl, sym, ◌∙◌, ap, arith}
use Rattle.std.proofs.Math.Nat.{mod-lt}
use Rattle.std.proofs.lemmas.Bool.{cases_order}
use Rattle.std.proofs.lemmas.List.{get_or_default}
use Rattle.std.proofs.lemmas.List.Elements.{All-from_recursion}
use Rattle.ms_logic_measures.specs.CallMeasures.{IsNumberOf}
use Rattle.ms_logic_measures.proofs.Counting.{not_0_1, of_each_pair}
use Rattle.std_collections.proofs.IndexTableLemmas.Probe.{pigeonhole}
use Rattle.ms_logic_counts.specs.Counts.{AreCounted, IsFiniteLabelling}
use Rattle.ms_logic_counts.specs.inner.Examples.{AreEqual, HaveOneRemainder, IsBelow, IsNumber, remainder}

remainder_listed : (r : ℕ) → r < 2 → Contains (0 ∷ 1 ∷ []) r
remainder_listed zero less = (0, omega arith, refl)
remainder_listed (suc zero) less = (1, omega arith, refl)
remainder_listed (suc (suc r)) less = absurd (omega (arith, less))

pub remainders_label : IsFiniteLabelling HaveOneRemainder (IsBelow 3) remainder (0 ∷ 1 ∷ [])
remainders_label = record {
  listed = λ item is. remainder_listed (item % 2) (mod-lt item (omega arith));
  alike = λ one other is_one is_other same. same;
}

abbrev just_zero : List ℕ
just_zero = 0 ∷ []

pub one_not_listed : Contains just_zero 1 → ⊥
one_not_listed found = not_at found.0 found.1 found.2
  where
    not_at : (k : ℕ) → k < 1 → slice_index_or just_zero k 1 ≡ 1 → ⊥
    not_at zero within is = omega (arith, is)
    not_at (suc k) within is = omega (arith, within)

like_first : (item : ℕ) → item < 3 → Any (λ one. HaveOneRemainder item one) (0 ∷ 1 ∷ [])
like_first zero below = (0, 0, omega arith, refl, refl)
like_first (suc zero) below = (1, 1, omega arith, refl, refl)
like_first (suc (suc zero)) below = (0, 0, omega arith, refl, refl)
like_first (suc (suc (suc item))) below = absurd (omega (arith, below))

pub two_numbers : IsNumberOf HaveOneRemainder (IsBelow 3) 2
two_numbers = record {
  chosen = 0 ∷ 1 ∷ [];
  items = All-from_recursion (IsBelow 3) (0 ∷ 1 ∷ []) (omega arith, (omega arith, tt));
  different = of_each_pair (λ one other. ¬ HaveOneRemainder one other) (0 ∷ 1 ∷ []) ((not_0_1, tt), (tt, tt));
  complete = like_first;
  count = refl;
}

pub no_three_numbers : IsNumberOf HaveOneRemainder (IsBelow 3) 3 → ⊥
no_three_numbers counted =
    let number : ℕ → ℕ = λ i. slice_index_or counted.chosen i 0 in
    let few : length counted.chosen ≤ 2
    = pigeonhole (length counted.chosen) 2 (λ i. number i % 2) (λ i within. mod-lt (number i) (omega arith))
    (λ i j within within_too same. ⊎_elim (λ equal. equal)
    (λ apart. ⊎_elim (λ before. absurd (counted.different i j 0 before within_too same))
    (λ behind. absurd (counted.different j i 0 behind within (sym same))) apart) (cases_order i j)) in
    let many = counted.count in
    absurd (omega (arith, few, many))

no_number : (n : ℕ) → IsNumberOf AreEqual IsNumber n → ⊥
no_number n counted =
    let place : ℕ → ℕ = λ i. (counted.complete i tt).0 in
    let few : suc (length counted.chosen) ≤ length counted.chosen
    = pigeonhole (suc (length counted.chosen)) (length counted.chosen) place (λ i within. (counted.complete i tt).2)
    (λ i j within within_too same.
    let one = counted.complete i tt in
    let other = counted.complete j tt in
    one.4 ∙ (sym one.3 ∙ (get_or_default counted.chosen one.0 one.1 other.1 one.2
    ∙ (ap (λ k. slice_index_or counted.chosen k other.1) same ∙ (other.3 ∙ sym other.4))))) in
    absurd (omega (arith, few))

pub no_count_of_all : AreCounted AreEqual IsNumber → ⊥
no_count_of_all counted = counted (λ found. no_number found.0 found.1)
