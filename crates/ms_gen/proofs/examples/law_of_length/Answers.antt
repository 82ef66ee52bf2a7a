use Rattle.ms_gen.proofs.Lengths.{generated_short}
use Rattle.ms_gen.proofs.examples.law_of_length.Goals as goal

pub returns : goal.returns
returns c = generated_short
