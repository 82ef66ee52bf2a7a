use Rattle.std.proofs.Common.{arith}
use Rattle.ms_logic.specs.declared.assignment.Value.TheVariants.{Number}
use Rattle.ms_dag.proofs.examples.worked_values.Goals as goal

pub returns-clause-exists : goal.returns-clause-exists
returns-clause-exists c = (Number 4, (tt, tt), omega arith)
