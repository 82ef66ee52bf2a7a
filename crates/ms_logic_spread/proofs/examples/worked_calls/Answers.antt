use Rattle.std.proofs.Common.{true, false, ℕ, ◌<◌, List, [], ◌∷◌, None, refl, inl, inr, ⊎_elim, subst, arith}
use Rattle.std.proofs.lemmas.Bool.{false≢true}
use Rattle.ms_logic_core.specs.declared.core_formula.Basic.TheVariants as Basic
use Rattle.ms_logic.specs.declared.mode.Order.TheVariants.{Zero}
use Rattle.ms_logic.specs.declared.assignment.Value.{Value}
use Rattle.ms_logic.specs.declared.assignment.Value.TheVariants.{Truth, Number, Set}
use Rattle.ms_logic.specs.Assignment.{IsValueOf, assign, assign_all}
use Rattle.ms_logic_core.specs.CoreForm.{CoreNo, basic, equivalence, restrict}
use Rattle.ms_logic.specs.inner.Examples.{a_at, x_at, var_x, var_y, less, one_argument}
use Rattle.ms_logic_core.specs.Spread.{both_of}
use Rattle.ms_logic.specs.Tree.{number_argument}
use Rattle.ms_logic.specs.Truth.{HaveValues, YesUnder, meanings_of}
use Rattle.ms_logic.proofs.Values.{each_value}
use Rattle.ms_logic_spread.specs.inner.Examples.{below_given}
use Rattle.ms_logic_spread.proofs.examples.worked_calls.Goals as goal

pub returns-clause-defined : goal.returns-clause-defined
returns-clause-defined c = (Truth true, (tt, tt), (inl (refl, refl), (refl, tt)))

-- no truth value is that of the argument
not_no : (v : Value) → IsValueOf Zero None v → CoreNo [] (both_of (restrict (equivalence (basic (Basic.Truth 1)) (restrict (basic (Basic.Truth 0))))) (basic (Basic.Truth 1))) (assign 1 v (a_at false)) → ⊥
not_no (Truth b) valid fails = ⊎_elim (λ yes. ⊎_elim (λ both. false≢true both.1) (λ other. other.1) yes) (λ none. none) fails.0.0
not_no (Number n) valid fails = valid
not_no (Set s) valid fails = valid

pub returns-clause-undefined_too : goal.returns-clause-undefined_too
returns-clause-undefined_too c = λ fails. ⊎_elim (λ found. not_no found.0 found.1.0 found.2) (λ empty. empty (Truth true) (tt, tt)) fails.1

pub returns-clause-hidden : goal.returns-clause-hidden
returns-clause-hidden c = (Number 1, (tt, refl), (Number 1 ∷ [], (refl, tt), ((tt, tt), omega arith)))

pub returns-clause-core_hidden : goal.returns-clause-core_hidden
returns-clause-core_hidden c = (Number 1, (tt, (Number 1, (tt, refl), refl)), omega arith)

-- no number is below itself
not_below : (n : ℕ) (vs : List Value) → HaveValues (meanings_of below_given) (one_argument (number_argument var_x)) (assign 0 (Number n) (x_at 3)) vs →
    YesUnder (meanings_of below_given) (less var_y var_x) (assign_all (1 ∷ []) vs (assign 0 (Number n) (x_at 3))) → ⊥
not_below n [] have holds = have
not_below n (v ∷ []) have holds =
    let P : Value → Type 0 = λ w. YesUnder (meanings_of below_given) (less var_y var_x) (assign 1 w (assign 0 (Number n) (x_at 3))) in
    let below : n < n = subst P have.0 holds in omega (arith, below)
not_below n (v ∷ w ∷ vs) have holds = have.1

pub returns-clause-read : goal.returns-clause-read
returns-clause-read c = (
  each_value _ (λ b in_range. absurd in_range.0) (λ n in_range called. not_below n called.0 called.1 called.2.1) (λ s in_range. absurd in_range.0),
  inl (Number 1, (tt, refl), inr (Number 1 ∷ [], (refl, tt), ((tt, tt), λ below. omega (arith, below)))),
)
