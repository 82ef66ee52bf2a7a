use Rattle.std.proofs.Common.{refl}
use Rattle.std.specs.Fmt.{digits}
use Rattle.ms_gen.proofs.examples.worked_sources.Goals as goal

pub returns-clause-one : goal.returns-clause-one
unfolding digits
returns-clause-one c = refl

pub returns-clause-three : goal.returns-clause-three
unfolding digits
returns-clause-three c = refl
