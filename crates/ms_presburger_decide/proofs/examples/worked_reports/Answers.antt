use Rattle.std.proofs.Common.{refl}
use Rattle.std.specs.Fmt.{digits}
use Rattle.ms_presburger_decide.proofs.WorkedNumbers.{below-zero-fails, not-at-zero, three-in-order}
use Rattle.ms_presburger_decide.proofs.examples.worked_reports.Goals as goal

pub returns-clause-answer : goal.returns-clause-answer
returns-clause-answer c = three-in-order

pub returns-clause-report : goal.returns-clause-report
unfolding digits
returns-clause-report c = refl

pub returns-clause-unsatisfiable : goal.returns-clause-unsatisfiable
returns-clause-unsatisfiable c = below-zero-fails

pub returns-clause-no_example : goal.returns-clause-no_example
unfolding digits
returns-clause-no_example c = refl

pub returns-clause-other_formula : goal.returns-clause-other_formula
returns-clause-other_formula c = not-at-zero
