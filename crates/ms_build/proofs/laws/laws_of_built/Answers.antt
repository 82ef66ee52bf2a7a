use Rattle.ms_build.proofs.LawLemmas.{child_has_value}
use Rattle.ms_build.proofs.RootLemmas.{roots_read}
use Rattle.ms_build.proofs.laws.laws_of_built.Goals as goal

pub returns-clause-values : goal.returns-clause-values
returns-clause-values c = child_has_value

pub returns-clause-read : goal.returns-clause-read
returns-clause-read c = roots_read
