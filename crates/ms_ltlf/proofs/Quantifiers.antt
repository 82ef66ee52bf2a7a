-- A quantifier over the positions of a string agrees with a fact about some, or about each, of them.
use Rattle.std.proofs.Common.{◌≡◌, ℕ, ◌<◌, inl, inr, ⊎_elim, Some, sym, subst}
use Rattle.ms_logic.specs.declared.assignment.Value.TheVariants.{Number}
use Rattle.ms_logic.specs.declared.mode.Order.TheVariants.{One}
use Rattle.ms_logic.specs.Assignment.{Universe, Env, IsValueOf, IsWithin, assign}
use Rattle.ms_logic.specs.Tree.{Form}
use Rattle.ms_logic.specs.Truth.{Meanings}
use Rattle.ms_logic.proofs.Consistent.{IsConsistent}
use Rattle.ms_logic.proofs.Values.{each_value}
use Rattle.ms_ltlf.specs.Strings.{exists, every}
use Rattle.ms_ltlf.proofs.Bounded.{some_or_each}
use Rattle.ms_translation.proofs.Agreeing.{Agrees}
use Rattle.ms_translation.proofs.Quantifiers.{AreValues, agrees-some, agrees-each}

-- a number below the length of the string is within the universe
pub within-string : (u : Universe) (n j : ℕ) → u ≡ Some n → j < n → IsWithin u j
within-string u n j universe below = let P : Universe → Type 0 = λ v. IsWithin v j in subst P (sym universe) below

pub below-string : (u : Universe) (n j : ℕ) → u ≡ Some n → IsWithin u j → j < n
below-string u n j universe within = let P : Universe → Type 0 = λ v. IsWithin v j in subst P universe within

module _ (m : Meanings) (consistent : IsConsistent m) (f : Form) (n x : ℕ) (e : Env) (P : ℕ → Type 0) (universe : e.universe ≡ Some n) (positive : 0 < n)
    (each : (j : ℕ) → j < n → Agrees m f (assign x (Number j) e) (P j)) where
  positions : AreValues ℕ (λ j. j < n) (λ j. Number j) One e
  positions = record {
    each = λ j below. within-string e.universe n j universe below;
    only = λ Q on. each_value (λ v. IsValueOf One e.universe v → Q v) (λ b in_range. absurd in_range) (λ j in_range. on j (below-string e.universe n j universe in_range)) (λ s in_range. absurd in_range);
    first = 0;
    in_range = positive;
  }

  pub agrees-exists : Agrees m (exists x f) e ((j : ℕ) × (j < n) × P j)
  agrees-exists =
      agrees-some m consistent ℕ (λ j. j < n) (λ j. Number j) One e positions x f P each (some_or_each P (λ j. ¬ P j) n (λ j below. ⊎_elim (λ yes. inl yes.0) (λ no. inr no.0) (each j below)))

  pub agrees-every : Agrees m (every x f) e ((j : ℕ) → j < n → P j)
  agrees-every =
      agrees-each m consistent ℕ (λ j. j < n) (λ j. Number j) One e positions x f P each
      (⊎_elim (λ some. inr some) (λ all. inl all) (some_or_each (λ j. ¬ P j) P n (λ j below. ⊎_elim (λ yes. inr yes.0) (λ no. inl no.0) (each j below))))
