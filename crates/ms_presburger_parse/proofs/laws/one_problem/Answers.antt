use Rattle.ms_presburger_parse.proofs.Readings.{one_reading}
use Rattle.ms_presburger_parse.proofs.laws.one_problem.Goals as goal

pub returns : goal.returns
returns c all f g reads reads' = one_reading all f g reads reads'
