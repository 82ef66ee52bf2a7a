use Rattle.ms_build_source.proofs.ExampleFiles.{file_of_another_mode, file_of_negation, file_of_second, file_of_subset, first_as_second, second_as_first, file_without_variables, gives_undefined, names_turned_round, signs_of_negation, signs_of_none, states_of_one_sign}
use Rattle.ms_build_source.proofs.examples.worked_files.Goals as goal

pub returns-clause-subset : goal.returns-clause-subset
returns-clause-subset c = file_of_subset

pub returns-clause-negated : goal.returns-clause-negated
returns-clause-negated c = file_of_negation

pub returns-clause-wrong_signs : goal.returns-clause-wrong_signs
returns-clause-wrong_signs c = signs_of_negation

pub returns-clause-no_signs : goal.returns-clause-no_signs
returns-clause-no_signs c = signs_of_none

pub returns-clause-undefined : goal.returns-clause-undefined
returns-clause-undefined c = gives_undefined

pub returns-clause-too_many_states : goal.returns-clause-too_many_states
returns-clause-too_many_states c = states_of_one_sign

pub returns-clause-other_mode : goal.returns-clause-other_mode
returns-clause-other_mode c = file_of_another_mode

pub returns-clause-turned_round : goal.returns-clause-turned_round
returns-clause-turned_round c = names_turned_round

pub returns-clause-no_variables : goal.returns-clause-no_variables
returns-clause-no_variables c = file_without_variables

pub returns-clause-second : goal.returns-clause-second
returns-clause-second c = file_of_second

pub returns-clause-second_as_first : goal.returns-clause-second_as_first
returns-clause-second_as_first c = second_as_first

pub returns-clause-first_as_second : goal.returns-clause-first_as_second
returns-clause-first_as_second c = first_as_second
