use Rattle.std.proofs.Common.{arith}
use Rattle.ms_parse_stack.specs.inner.Sample.{letter}
use Rattle.ms_parse_stack.proofs.examples.worked_frames.Goals as goal

pub returns-clause-all_as_deep : goal.returns-clause-all_as_deep
returns-clause-all_as_deep c deep = omega (arith, deep.brackets_deep letter)
