use Rattle.ms_logic_core.specs.Spread.{numbers_and_sets}
use Rattle.ms_logic.specs.View.{argument_of, arguments}
use Rattle.ms_lower.specs.inner.Given.{values_of, variables_of}
use Rattle.ms_lower.specs.Numbering.{numbering_of}
use Rattle.ms_lower.specs.inner.Scope.{names_in}
use Rattle.ms_lower.proofs.Entering.{number_entered}
use Rattle.ms_lower.proofs.given.number_arguments.Goals as goal

pub loop-i-preserved : goal.loop-i-preserved
loop-i-preserved c =
    let xs = variables_of c.args.arguments.now in
    let vals = values_of c.args.arguments.now in
    let names = names_in c.args.scope.now in
    number_entered (numbering_of c.args.tables.now) (numbers_and_sets xs (arguments vals) names) c.args.free xs vals names c.loop-i.i (argument_of c.value.result.now) c.in_ok-value.value c.variable.result c.loop-i.entered c.in_ok-entered.entered
    c.loop-i.invariant c.value.ensures c.in_ok-value.ensures c.variable.ensures c.in_ok-entered.ensures
