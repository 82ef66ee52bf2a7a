use Rattle.ms_rename_parts.proofs.RenameParts.{renamings_are_within_budget, renamings_need_few_parts}
use Rattle.ms_rename_parts.proofs.renamings.laws_of_renamings.Goals as goal

pub returns-clause-few : goal.returns-clause-few
returns-clause-few c = renamings_need_few_parts

pub returns-clause-budget : goal.returns-clause-budget
returns-clause-budget c = renamings_are_within_budget
