-- Numbers that leave different remainders by 2.
use Rattle.std.proofs.Common.{◌≡◌, ℕ, ◌%◌, ◌⊎◌, ⊎_elim, [], ◌∷◌, refl, sym, ap, ◌∙◌, arith}
use Rattle.std.proofs.Math.Nat.{mod-lt}
use Rattle.std.proofs.lemmas.List.Elements.{All-from_recursion}
use Rattle.ms_logic_measures.proofs.Counting.{not_0_1, of_each_pair}
use Rattle.ms_logic_starts.specs.AtLeast.{IsAtLeastNumber}
use Rattle.ms_logic_starts.specs.inner.Examples.{HaveOneRemainder, IsBelow}
use Rattle.ms_logic_starts.proofs.AtLeastLemmas.{at_most_numbers}

pub two_numbers : IsAtLeastNumber HaveOneRemainder (IsBelow 3) 2
two_numbers = record {
  chosen = 0 ∷ 1 ∷ [];
  items = All-from_recursion (IsBelow 3) (0 ∷ 1 ∷ []) (omega arith, (omega arith, tt));
  different = of_each_pair (λ one other. ¬ HaveOneRemainder one other) (0 ∷ 1 ∷ []) ((not_0_1, tt), (tt, tt));
  count = omega arith;
}

pub no_three_numbers : IsAtLeastNumber HaveOneRemainder (IsBelow 3) 3 → ⊥
no_three_numbers three =
    let few = at_most_numbers HaveOneRemainder (IsBelow 3) (λ item label. label ≡ item % 2) 2
    (λ item below. (item % 2, mod-lt item (omega arith), refl))
    (λ one other is_one is_other label first second. sym first ∙ second) 3 three in
    absurd (omega (arith, few))

abbrev IsZeroOrTwo : ℕ → Type 0
IsZeroOrTwo item = (item ≡ 0) ⊎ (item ≡ 2)

is_even : (item : ℕ) → IsZeroOrTwo item → item % 2 ≡ 0
is_even item is = ⊎_elim (λ none. ap (λ n. n % 2) none) (λ two. ap (λ n. n % 2) two) is

pub no_two_numbers : IsAtLeastNumber HaveOneRemainder IsZeroOrTwo 2 → ⊥
no_two_numbers two =
    let few = at_most_numbers HaveOneRemainder IsZeroOrTwo (λ item label. label ≡ 0) 1
    (λ item is. (0, omega arith, refl))
    (λ one other is_one is_other label first second. is_even one is_one ∙ sym (is_even other is_other)) 2 two in
    absurd (omega (arith, few))
