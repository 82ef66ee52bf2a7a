use Rattle.std.proofs.Common.{refl, inl, inr, arith, rules}
use Rattle.ms_logic.specs.declared.assignment.Value.TheVariants.{Number}
use Rattle.ms_logic.specs.inner.Examples.{var_x, var_y, less, ex1_y, nothing_given}
use Rattle.ms_logic.specs.Tree.{exported}
use Rattle.ms_logic.specs.Truth.{No}
use Rattle.ms_logic.proofs.Values.{each_value}
use Rattle.ms_logic_spread.specs.inner.Examples.{x_and_y_at}
use Rattle.ms_logic_spread.proofs.examples.worked_roots.Goals as goal

pub returns-clause-main_yes : goal.returns-clause-main_yes
returns-clause-main_yes c = ((tt, tt), ((Number 1, (tt, tt), search rules), tt))

-- no number is below 0
none_below : No nothing_given (ex1_y (exported 0 (less var_y var_x))) (x_and_y_at 0 5)
none_below = (
  each_value _ (λ b in_range. absurd in_range.0) (λ n in_range below. omega (arith, below)) (λ s in_range. absurd in_range.0),
  inl (Number 0, (tt, tt), λ below. omega (arith, below)),
)

pub returns-clause-main_no : goal.returns-clause-main_no
returns-clause-main_no c = ((tt, tt), ((inr none_below, tt), inl none_below))

pub returns-clause-export_yes : goal.returns-clause-export_yes
returns-clause-export_yes c = (less var_y var_x, (0, omega arith, refl), search rules)

pub returns-clause-export_no : goal.returns-clause-export_no
returns-clause-export_no c = (less var_y var_x, (0, omega arith, refl), λ below. omega (arith, below))
