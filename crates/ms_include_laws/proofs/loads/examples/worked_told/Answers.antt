use Rattle.ms_include_laws.proofs.of_loads.Worked as worked
use Rattle.ms_include_laws.proofs.loads.examples.worked_told.Goals as goal

pub returns-clause-same : goal.returns-clause-same
returns-clause-same c = worked.same

pub returns-clause-silent : goal.returns-clause-silent
returns-clause-silent c = worked.told_by_none
