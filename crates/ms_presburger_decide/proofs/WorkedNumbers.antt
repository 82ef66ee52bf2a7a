-- The examples of first numbers, worked by hand.
use Rattle.std.proofs.Common.{◌≡◌, ℕ, Bool, List, [], ◌∷◌, Some, inl, inr, ⊎_elim, refl, ap, subst, arith}
use Rattle.std.proofs.lemmas.Bool.{cases_lt}
use Rattle.ms_logic.specs.First.{IsLower}
use Rattle.ms_presburger.specs.Numbers.{Holds, Valuation}
use Rattle.ms_presburger.specs.Tree.{truth}
use Rattle.ms_presburger.specs.inner.Examples.{at, is, three_in_order, x, y}
use Rattle.ms_presburger_decide.specs.Answer.{ComesBefore, FailsAt, IsNumberAnswer, ShowsFirstNumbers, bits_of, most_digits}
use Rattle.ms_presburger_decide.specs.inner.Examples.{below_zero, below_zero_answer, three_in_order_answer}
use Rattle.ms_report.specs.Numbers.{ShownNumbers}

pair-before : (v : Valuation) (a b : ℕ) (others : List ℕ) → v x ≡ a → v y ≡ b → ComesBefore (v x ∷ v y ∷ []) others → ComesBefore (a ∷ b ∷ []) others
pair-before v a b others is_a is_b before =
    let P : ℕ → Type 0 = λ n. ComesBefore (n ∷ v y ∷ []) others in
    let Q : ℕ → Type 0 = λ n. ComesBefore (a ∷ n ∷ []) others in subst Q is_b (subst P is_a before)

first-pair : ShowsFirstNumbers (x ∷ y ∷ []) (Holds three_in_order) (Some (record { digits = 2; numbers = 0 ∷ 3 ∷ [] }))
first-pair = (
  at 0 3,
  record {
    has = (refl, (omega arith, tt));
    none_before = λ w before held.
        ⊎_elim (λ none. not-itself (pair-before w 0 3 (0 ∷ 3 ∷ []) (omega (arith, none)) (omega (arith, none, held.0)) before))
        (λ some. not-next (pair-before w 1 2 (0 ∷ 3 ∷ []) (omega (arith, some, held.0, held.1.0)) (omega (arith, some, held.0, held.1.0)) before)) (cases_lt (w x) 1);
  },
  refl,
)
  where
    not-itself : ComesBefore (0 ∷ 3 ∷ []) (0 ∷ 3 ∷ []) → ⊥
    not-itself before = elim before [ inl fewer ↦ omega (arith, fewer) | inr (same, lower) ↦ lower ]

    not-next : ComesBefore (1 ∷ 2 ∷ []) (0 ∷ 3 ∷ []) → ⊥
    not-next before = elim before [ inl fewer ↦ omega (arith, fewer) | inr (same, lower) ↦ lower ]

-- the first two of some numbers
abbrev first-of : List ℕ → ℕ
first-of [] = 0
first-of (n ∷ more) = n

abbrev second-of : List ℕ → ℕ
second-of [] = 0
second-of (n ∷ more) = first-of more

pub not-the-first-pair : ShowsFirstNumbers (x ∷ y ∷ []) (Holds three_in_order) (Some (record { digits = 2; numbers = 1 ∷ 2 ∷ [] })) → ⊥
not-the-first-pair (v, first, shown) =
    let one : 1 ≡ v x = ap (λ (s : ShownNumbers). first-of s.numbers) shown in
    let two : 2 ≡ v y = ap (λ (s : ShownNumbers). second-of s.numbers) shown in
    let P : ℕ → Type 0 = λ n. ComesBefore (0 ∷ 3 ∷ []) (n ∷ v y ∷ []) in
    let Q : ℕ → Type 0 = λ n. ComesBefore (0 ∷ 3 ∷ []) (1 ∷ n ∷ []) in
    first.none_before (at 0 3) (subst P one (subst Q two (inr (refl, tt)))) (refl, (omega arith, tt))

none-lower : (bits : List Bool) → IsLower bits [] → ⊥
none-lower [] lower = lower
none-lower (b ∷ bits) lower = lower

first-counterexample : ShowsFirstNumbers (x ∷ y ∷ []) (FailsAt three_in_order) (Some (record { digits = 0; numbers = 0 ∷ 0 ∷ [] }))
first-counterexample = (
  at 0 0,
  record {
    has = λ held. omega (arith, held.0);
    none_before = λ w before fails. elim before [ inl fewer ↦ omega (arith, fewer) | inr (same, lower) ↦ none-lower (bits_of (w x ∷ w y ∷ [])) lower ];
  },
  refl,
)

pub not-the-first : ShowsFirstNumbers (x ∷ []) (Holds truth) (Some (record { digits = 1; numbers = 1 ∷ [] })) → ⊥
not-the-first (v, first, shown) =
    let one : 1 ≡ v x = ap (λ (s : ShownNumbers). first-of s.numbers) shown in
    let P : ℕ → Type 0 = λ n. ComesBefore (0 ∷ []) (n ∷ []) in
    first.none_before (at 0 0) (subst P one (inl (omega arith))) tt

pub not-its-digits : ShowsFirstNumbers (x ∷ []) (Holds (is x 5)) (Some (record { digits = 2; numbers = 5 ∷ [] })) → ⊥
not-its-digits (v, first, shown) =
    let five : v x ≡ 5 = omega (arith, first.has) in
    let two : 2 ≡ most_digits (v x ∷ []) = ap (λ (s : ShownNumbers). s.digits) shown in
    omega (arith, two, ap (λ n. most_digits (n ∷ [])) five)

-- the whole answers

pub three-in-order : IsNumberAnswer three_in_order three_in_order_answer
three-in-order = record {
  verdict = ((at 0 3, (refl, (omega arith, tt))), (at 0 0, λ held. omega (arith, held.0)));
  example = first-pair;
  counterexample = first-counterexample;
}

none-below-zero : (v : Valuation) → FailsAt below_zero v
none-below-zero v held = omega (arith, held)

pub below-zero-fails : IsNumberAnswer below_zero below_zero_answer
below-zero-fails = record {
  verdict = none-below-zero;
  example = none-below-zero;
  counterexample = (at 0 0, record { has = none-below-zero (at 0 0); none_before = λ w before fails. zero-first w before }, refl);
}
  where
    zero-first : (w : Valuation) → ComesBefore (w x ∷ []) (0 ∷ []) → ⊥
    zero-first w before = elim before [ inl fewer ↦ omega (arith, fewer) | inr (same, lower) ↦ none-lower (bits_of (w x ∷ [])) lower ]

-- x = 0 holds at 0
pub not-at-zero : IsNumberAnswer (is x 0) below_zero_answer → ⊥
not-at-zero answer = answer.verdict (at 0 0) refl
