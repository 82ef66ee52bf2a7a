use Rattle.ms_names_checked.proofs.Worked.{one-number, two-numbers}
use Rattle.ms_names_checked.proofs.examples.worked_orders.Goals as goal

pub returns-clause-two_numbers : goal.returns-clause-two_numbers
returns-clause-two_numbers c = two-numbers

pub returns-clause-one_number : goal.returns-clause-one_number
returns-clause-one_number c = one-number
