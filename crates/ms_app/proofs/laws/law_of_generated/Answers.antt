use Rattle.ms_app.proofs.Generations.{found-valid}
use Rattle.ms_app.proofs.laws.law_of_generated.Goals as goal

pub returns : goal.returns
returns c = found-valid
