use Rattle.ms_parse_print.proofs.Prefixes.{part_test}
use Rattle.ms_parse_print.proofs.fit.has_part.Goals as goal

pub returns : goal.returns
returns c = part_test c.args.parts.now
