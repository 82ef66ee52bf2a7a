-- The graph of a source: that of its core formulas, in which each call is what it stands for.
use Rattle.std.specs.Prelude.{◌≡◌, length, map}
use Rattle.ms_logic.specs.declared.checked.Checked.{Checked}
use Rattle.ms_logic_core.specs.declared.core_formula.Lowered.{Lowered}
use Rattle.ms_logic.specs.View.{problem_of, Answers}
use Rattle.ms_logic_core.specs.Calls.{Calls}
use Rattle.ms_dag.specs.declared.dag.Dag.{Dag}
use Rattle.ms_dag.specs.Lowered.{IsLowered}
use Rattle.ms_dag.specs.Share.{IsDagOf}
use Rattle.ms_lower.specs.Calling.{calls_of}
use Rattle.ms_lower.specs.Lowered.{HasRoots, ListsVariables}
use Rattle.ms_lower.specs.Measure.{IsMeasure}

-- what the calls of a source stand for
abbrev pub calls_in : Checked → Answers → Calls
calls_in checked answers = calls_of (length checked.globals) (problem_of checked answers).given

pub record IsGraphOf (checked : Checked) (answers : Answers) (dag : Dag) : Type 0 where
  pub lowered : Lowered
  pub lists : ListsVariables checked (problem_of checked answers)
  pub measure : IsMeasure (problem_of checked answers) lowered.size lowered.depth
  pub roots : HasRoots checked answers lowered.roots
  pub orders : lowered.orders ≡ map (λ g. g.order) checked.globals
  pub is_lowered : IsLowered (problem_of checked answers).given.imports (calls_in checked answers) lowered
  pub is_dag : IsDagOf (calls_in checked answers) lowered dag
