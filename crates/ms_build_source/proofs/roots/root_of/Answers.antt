use Rattle.std.proofs.Common.{sym, subst}
use Rattle.ms_build.specs.Built.{IsLimit}
use Rattle.ms_build_source.proofs.roots.root_of.Goals as goal

pub root-requires-clause-limit : goal.root-requires-clause-limit
root-requires-clause-limit c = subst IsLimit (sym c.requires.ready.limit_is) c.requires.ready.is_limit
