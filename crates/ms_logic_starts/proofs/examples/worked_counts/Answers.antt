use Rattle.ms_logic_starts.proofs.ExampleCounts.{two_numbers, no_three_numbers, no_two_numbers}
use Rattle.ms_logic_starts.proofs.examples.worked_counts.Goals as goal

pub returns-clause-two : goal.returns-clause-two
returns-clause-two c = two_numbers

pub returns-clause-no_three : goal.returns-clause-no_three
returns-clause-no_three c = no_three_numbers

pub returns-clause-no_two : goal.returns-clause-no_two
returns-clause-no_two c = no_two_numbers
