use Rattle.ms_calls.proofs.ProjectionLemmas.{projections_are_within_measure, projections_need_few_sets, unrestricted_are_within_measure, unrestricted_need_few_sets}
use Rattle.ms_calls.proofs.projections.laws_of_projections.Goals as goal

pub returns-clause-few : goal.returns-clause-few
returns-clause-few c = projections_need_few_sets

pub returns-clause-measure : goal.returns-clause-measure
returns-clause-measure c = projections_are_within_measure

pub returns-clause-unrestricted_few : goal.returns-clause-unrestricted_few
returns-clause-unrestricted_few c = unrestricted_need_few_sets

pub returns-clause-unrestricted_measure : goal.returns-clause-unrestricted_measure
returns-clause-unrestricted_measure c = unrestricted_are_within_measure
