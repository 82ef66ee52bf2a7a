use Rattle.ms_logic_starts.proofs.ExampleNeeds.{left_by_zero, left_by_one, four_led, one_led, four_apart}
use Rattle.ms_logic_starts.proofs.examples.worked_needs.Goals as goal

pub returns-clause-after_zero : goal.returns-clause-after_zero
returns-clause-after_zero c = left_by_zero

pub returns-clause-after_one : goal.returns-clause-after_one
returns-clause-after_one c = left_by_one

pub returns-clause-led : goal.returns-clause-led
returns-clause-led c = four_led

pub returns-clause-apart : goal.returns-clause-apart
returns-clause-apart c = four_apart

pub returns-clause-behind_one : goal.returns-clause-behind_one
returns-clause-behind_one c = one_led
