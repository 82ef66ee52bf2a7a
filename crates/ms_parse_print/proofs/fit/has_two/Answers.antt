use Rattle.ms_parse_print.proofs.Prefixes.{two_test}
use Rattle.ms_parse_print.proofs.fit.has_two.Goals as goal

pub returns : goal.returns
returns c = two_test c.args.es.now
