use Rattle.ms_parse_print.proofs.Fitting.{read_source_fits}
use Rattle.ms_parse_print.proofs.laws.read_sources_fit.Goals as goal

pub returns : goal.returns
returns c = read_source_fits
