use Rattle.std.proofs.Common.{refl}
use Rattle.std.specs.Fmt.{digits}
use Rattle.ms_report.proofs.examples.worked_number_reports.Goals as goal

pub returns-clause-contingent : goal.returns-clause-contingent
unfolding digits
returns-clause-contingent c = refl

pub returns-clause-unsatisfiable : goal.returns-clause-unsatisfiable
unfolding digits
returns-clause-unsatisfiable c = refl
