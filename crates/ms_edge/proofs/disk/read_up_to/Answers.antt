use Rattle.std.proofs.Common.{rules}
use Rattle.ms_edge.proofs.Reading.{given-is-whole}
use Rattle.ms_edge.proofs.disk.read_up_to.Goals as goal

pub returns-in-Ok-clause-whole : goal.returns-in-Ok-clause-whole
returns-in-Ok-clause-whole g c = given-is-whole (g.F.Read.remaining c.args.file) c.saturating_add.result c.from.result (search rules) (search rules)
