use Rattle.std.proofs.Common.{refl, ◌∙◌, arith}
use Rattle.ms_logic_counts.proofs.ExampleCounts.{one_not_listed, remainders_label, two_numbers, no_three_numbers, no_count_of_all}
use Rattle.ms_logic_counts.proofs.examples.worked_counts.Goals as goal

pub returns-clause-transitive : goal.returns-clause-transitive
returns-clause-transitive c one two three first second = first ∙ second

pub returns-clause-not_transitive : goal.returns-clause-not_transitive
returns-clause-not_transitive c transitive = let leap = transitive 2 1 0 (omega arith) (omega arith) in absurd (omega (arith, leap))

pub returns-clause-labelling : goal.returns-clause-labelling
returns-clause-labelling c = remainders_label

pub returns-clause-not_listed : goal.returns-clause-not_listed
returns-clause-not_listed c labelling = one_not_listed (labelling.listed 1 (omega arith))

pub returns-clause-not_alike : goal.returns-clause-not_alike
returns-clause-not_alike c labelling = let same = labelling.alike 0 2 (omega arith) (omega arith) refl in absurd (omega (arith, same))

pub returns-clause-two : goal.returns-clause-two
returns-clause-two c = two_numbers

pub returns-clause-not_three : goal.returns-clause-not_three
returns-clause-not_three c = no_three_numbers

pub returns-clause-all_numbers : goal.returns-clause-all_numbers
returns-clause-all_numbers c = no_count_of_all
