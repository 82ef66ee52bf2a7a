-- A quantifier agrees with a fact about some, or about each, of the values that its variable can have.
use Rattle.std.proofs.Common.{ℕ, ◌⊎◌, inl, inr, ⊎_elim}
use Rattle.ms_logic.specs.declared.assignment.Value.{Value}
use Rattle.ms_logic.specs.declared.mode.Order.{Order}
use Rattle.ms_logic.specs.declared.mode.Quant.TheVariants.{Ex, All}
use Rattle.ms_logic.specs.Assignment.{Env, IsValueOf, assign}
use Rattle.ms_logic.specs.Tree.{Form, quantified, unrestricted}
use Rattle.ms_logic.specs.Truth.{Meanings, YesUnder, NoUnder}
use Rattle.ms_logic.proofs.Consistent.{IsConsistent, never_both}
use Rattle.ms_translation.proofs.Agreeing.{Agrees}

-- The values of an order are those of some things, of which there is one: the numbers within a universe, say, or the rising lists.
pub record AreValues (A : Type 0) (In : A → Type 0) (value : A → Value) (o : Order) (e : Env) : Type 1 where
  pub each : (a : A) → In a → IsValueOf o e.universe (value a)
  pub only : (P : Value → Type 0) → ((a : A) → In a → P (value a)) → (v : Value) → IsValueOf o e.universe v → P v
  pub first : A
  pub in_range : In first

module _ (m : Meanings) (consistent : IsConsistent m) (A : Type 0) (In : A → Type 0) (value : A → Value) (o : Order) (e : Env) (values : AreValues A In value o e) where
  pub agrees-some : (x : ℕ) (f : Form) (P : A → Type 0) → ((a : A) → In a → Agrees m f (assign x (value a) e) (P a)) →
      ((a : A) × In a × P a) ⊎ ((a : A) → In a → ¬ P a) → Agrees m (quantified Ex o x unrestricted f) e ((a : A) × In a × P a)
  agrees-some x f P each decided =
      ⊎_elim (λ found. inl (found, ⊎_elim (λ yes. (value found.0, (values.each found.0 found.1, tt), yes.1)) (λ no. absurd (no.0 found.2)) (each found.0 found.1)))
      (λ none. inr (
        (λ found. none found.0 found.1 found.2),
        (
          (λ v in_range yes. values.only (λ w. YesUnder m f (assign x w e) → ⊥)
              (λ a is yes'. ⊎_elim (λ held. none a is held.0) (λ no. never_both m consistent f (assign x (value a) e) yes' no.1) (each a is)) v in_range.0 yes),
          inl (value values.first, (values.each values.first values.in_range, tt), ⊎_elim (λ yes. absurd (none values.first values.in_range yes.0)) (λ no. no.1) (each values.first values.in_range)),
        ),
      )) decided

  pub agrees-each : (x : ℕ) (f : Form) (P : A → Type 0) → ((a : A) → In a → Agrees m f (assign x (value a) e) (P a)) →
      ((a : A) → In a → P a) ⊎ ((a : A) × In a × ¬ P a) → Agrees m (quantified All o x unrestricted f) e ((a : A) → In a → P a)
  agrees-each x f P each decided =
      ⊎_elim (λ all. inl (
        all,
        (
          (λ v in_range no. values.only (λ w. NoUnder m f (assign x w e) → ⊥)
              (λ a is no'. ⊎_elim (λ yes. never_both m consistent f (assign x (value a) e) yes.1 no') (λ fails. fails.0 (all a is)) (each a is)) v in_range.0 no),
          inl (value values.first, (values.each values.first values.in_range, tt), ⊎_elim (λ yes. yes.1) (λ no. absurd (no.0 (all values.first values.in_range))) (each values.first values.in_range)),
        ),
      ))
      (λ found. inr ((λ all. found.2 (all found.0 found.1)), (value found.0, (values.each found.0 found.1, tt), ⊎_elim (λ yes. absurd (found.2 yes.0)) (λ no. no.1) (each found.0 found.1)))) decided
