use Rattle.std.proofs.Common.{refl}
use Rattle.std.specs.Fmt.{digits}
use Rattle.ms_cert_check.proofs.examples.worked_checks.Goals as goal

pub returns-clause-both : goal.returns-clause-both
unfolding digits
returns-clause-both c = refl

pub returns-clause-no_example : goal.returns-clause-no_example
unfolding digits
returns-clause-no_example c = refl
