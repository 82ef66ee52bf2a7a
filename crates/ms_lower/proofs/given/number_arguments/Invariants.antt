use Rattle.std.proofs.Common.{drop}
use Rattle.ms_logic_core.specs.Spread.{numbers_and_sets}
use Rattle.ms_logic.specs.View.{arguments}
use Rattle.ms_lower.specs.inner.Given.{EntersBefore, values_of, variables_of}
use Rattle.ms_lower.specs.Numbering.{numbering_of}
use Rattle.ms_lower.specs.inner.Scope.{names_in}
use Rattle.ms_lower.proofs.given.number_arguments.Given as goal

abbrev pub invariant-loop-i : goal.invariant-loop-i
invariant-loop-i l =
    EntersBefore (numbering_of l.tables) (numbers_and_sets (variables_of l.arguments) (arguments (values_of l.arguments)) (names_in l.scope))
    (numbers_and_sets (drop l.i (variables_of l.arguments)) (arguments (drop l.i (values_of l.arguments))) (names_in l.scope)) l.free l.entered
