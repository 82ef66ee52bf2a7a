use Rattle.std.proofs.Common.{arith}
use Rattle.ms_presburger_parse.specs.inner.Machine.{wanted}
use Rattle.ms_presburger_parse.proofs.examples.worked_steps.Goals as goal

pub returns-clause-leaf_is_less : goal.returns-clause-leaf_is_less
returns-clause-leaf_is_less c two = omega (arith, (two wanted).1)

pub returns-clause-number_is_deeper : goal.returns-clause-number_is_deeper
returns-clause-number_is_deeper c keeps = omega (arith, keeps wanted)
