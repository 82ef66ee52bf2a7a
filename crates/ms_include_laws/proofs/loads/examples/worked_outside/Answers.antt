use Rattle.std.proofs.Common.{inl, refl}
use Rattle.ms_include_laws.proofs.of_loads.Worked as worked
use Rattle.ms_include_laws.proofs.loads.examples.worked_outside.Goals as goal

pub returns-clause-memory : goal.returns-clause-memory
returns-clause-memory c = inl refl

pub returns-clause-failed : goal.returns-clause-failed
returns-clause-failed c = worked.failed

pub returns-clause-no_failure : goal.returns-clause-no_failure
returns-clause-no_failure c = worked.no_failure

pub returns-clause-missing : goal.returns-clause-missing
returns-clause-missing c = worked.missing
