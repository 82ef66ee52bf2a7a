use Rattle.ms_dfafile_imports.proofs.Worked.{missing, no-fault, not-first, other-name}
use Rattle.ms_dfafile_imports.proofs.examples.worked_refusals.Goals as goal

pub returns-clause-missing : goal.returns-clause-missing
returns-clause-missing c = missing

pub returns-clause-other_name : goal.returns-clause-other_name
returns-clause-other_name c = other-name

pub returns-clause-no_fault : goal.returns-clause-no_fault
returns-clause-no_fault c = no-fault

pub returns-clause-not_first : goal.returns-clause-not_first
returns-clause-not_first c = not-first
