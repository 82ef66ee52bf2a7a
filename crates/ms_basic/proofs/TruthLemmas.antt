-- The machine of a truth value decides it.
use Rattle.std.proofs.Common.{◌≡◌, ℕ, ◌<◌, Bool, true, false, if◌then◌else◌, refl, sym, subst, arith}
use Rattle.std.proofs.lemmas.Bool.{false≢true}
use Rattle.ms_logic_core.specs.declared.core_formula.Basic.TheVariants.{Truth}
use Rattle.ms_logic.specs.declared.mode.Mode.{Mode}
use Rattle.ms_logic_core.specs.Operands.{variables_of_basic}
use Rattle.ms_basic.specs.inner.Relation.{DecidesRelation, IsRight}
use Rattle.ms_basic.specs.inner.Truth.{truth_table}
use Rattle.ms_basic.specs.Verdict.{sign_by_contradiction}
use Rattle.ms_basic.proofs.ReadingLemmas.{kept}

truth_right : (value : Bool) → IsRight (value ≡ true) (sign_by_contradiction (if value then 1 else 0))
truth_right true = refl
truth_right false = λ holds. false≢true holds

truth_closed : (value : Bool) → (if value then 1 else 0) < 2
truth_closed true = omega arith
truth_closed false = omega arith

pub decides_truth : (mode : Mode) (a : ℕ) → DecidesRelation mode (variables_of_basic (Truth a)) (Truth a) truth_table
decides_truth mode a = record {
  closed = record { start = λ bits. truth_closed bits.first; step = λ state bits small. small };
  tallies = (tt, tt);
  right = λ e count assigned room string.
      subst (λ state. IsRight (e.truth a ≡ true) (sign_by_contradiction state))
      (sym (kept truth_table (variables_of_basic (Truth a)) e count (λ position state. state ≡ (if e.truth a then 1 else 0)) refl (λ position state at. at)))
      (truth_right (e.truth a));
}
