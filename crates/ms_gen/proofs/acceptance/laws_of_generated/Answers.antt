use Rattle.ms_gen.proofs.Accepting.{sources-are-accepted}
use Rattle.ms_gen.proofs.EachLoad.{sources-are-valid, sources-have-no-fault}
use Rattle.ms_gen.proofs.acceptance.laws_of_generated.Goals as goal

pub returns-clause-accepted : goal.returns-clause-accepted
returns-clause-accepted c = sources-are-accepted

pub returns-clause-no_fault : goal.returns-clause-no_fault
returns-clause-no_fault c = sources-have-no-fault

pub returns-clause-valid : goal.returns-clause-valid
returns-clause-valid c = sources-are-valid
