use Rattle.ms_parse_print.proofs.Prefixes.{variable_test}
use Rattle.ms_parse_print.proofs.fit.has_variable.Goals as goal

pub returns : goal.returns
returns c = variable_test c.args.bounds.now
