use Rattle.ms_calls.proofs.FewestLemmas.{fewest_are_within_measure, fewest_have_few_parts, fewest_need_few_parts}
use Rattle.ms_calls.proofs.Parts.{reached_parts_are_parts}
use Rattle.ms_calls.proofs.fewest.laws_of_fewest_states.Goals as goal

pub returns-clause-parts : goal.returns-clause-parts
returns-clause-parts c = reached_parts_are_parts

pub returns-clause-few : goal.returns-clause-few
returns-clause-few c = fewest_need_few_parts

pub returns-clause-measure : goal.returns-clause-measure
returns-clause-measure c = fewest_are_within_measure

pub returns-clause-made : goal.returns-clause-made
returns-clause-made c = fewest_have_few_parts
