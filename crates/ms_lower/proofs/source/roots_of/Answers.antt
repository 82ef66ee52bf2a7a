use Rattle.ms_lower.proofs.SourceRoots.{roots_for}
use Rattle.ms_lower.proofs.source.roots_of.Goals as goal

pub returns : goal.returns
returns c = λ answers same has. roots_for c.args.checked.now answers c.in_ok-tables.tables c.in_ok-tables.ensures same has c.in_ok-all_roots.field-0 c.in_ok-all_roots.ensures
