use Rattle.ms_ltlf_parse.proofs.Readings.{one_reading}
use Rattle.ms_ltlf_parse.proofs.laws.one_trace.Goals as goal

pub returns : goal.returns
returns c all names others f g reads reads' = one_reading all names others f g reads reads'
