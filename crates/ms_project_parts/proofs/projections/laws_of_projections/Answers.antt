use Rattle.ms_project_parts.proofs.Budgets.{projections_are_within_budget, projections_need_few_sets, unrestricted_are_within_budget}
use Rattle.ms_project_parts.proofs.projections.laws_of_projections.Goals as goal

pub returns-clause-few : goal.returns-clause-few
returns-clause-few c = projections_need_few_sets

pub returns-clause-budget : goal.returns-clause-budget
returns-clause-budget c = projections_are_within_budget

pub returns-clause-unrestricted : goal.returns-clause-unrestricted
returns-clause-unrestricted c = unrestricted_are_within_budget
