use Rattle.std.proofs.Common.{refl}
use Rattle.ms_parse.proofs.Trials.{reads_by_trial}
use Rattle.ms_parse.proofs.examples.example_operators.Goals as goal

pub returns-clause-to_the_right : goal.returns-clause-to_the_right
returns-clause-to_the_right c = reads_by_trial 40 _ _ refl

pub returns-clause-to_the_left : goal.returns-clause-to_the_left
returns-clause-to_the_left c = reads_by_trial 40 _ _ refl

pub returns-clause-one_list : goal.returns-clause-one_list
returns-clause-one_list c = reads_by_trial 40 _ _ refl

pub returns-clause-and_before_or : goal.returns-clause-and_before_or
returns-clause-and_before_or c = reads_by_trial 40 _ _ refl

pub returns-clause-negated_body : goal.returns-clause-negated_body
returns-clause-negated_body c = reads_by_trial 40 _ _ refl

pub returns-clause-body_to_the_end : goal.returns-clause-body_to_the_end
returns-clause-body_to_the_end c = reads_by_trial 40 _ _ refl

pub returns-clause-body_in_brackets : goal.returns-clause-body_in_brackets
returns-clause-body_in_brackets c = reads_by_trial 40 _ _ refl

pub returns-clause-difference_first : goal.returns-clause-difference_first
returns-clause-difference_first c = reads_by_trial 40 _ _ refl

pub returns-clause-shifts : goal.returns-clause-shifts
returns-clause-shifts c = reads_by_trial 40 _ _ refl
