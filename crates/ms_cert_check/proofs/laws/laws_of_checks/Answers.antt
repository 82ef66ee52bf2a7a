use Rattle.ms_cert_check.proofs.Completeness.{checked}
use Rattle.ms_cert_check.proofs.Lines.{lines}
use Rattle.ms_cert_check.proofs.Passed.{passed}
use Rattle.ms_cert_check.proofs.laws.laws_of_checks.Goals as goal

pub returns-clause-lines : goal.returns-clause-lines
returns-clause-lines c = lines

pub returns-clause-checked : goal.returns-clause-checked
returns-clause-checked c = checked

pub returns-clause-passed : goal.returns-clause-passed
returns-clause-passed c = passed
