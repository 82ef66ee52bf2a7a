use Rattle.ms_calls.proofs.RenamingLemmas.{renames_are_within_measure, renames_need_few_parts}
use Rattle.ms_calls.proofs.RisingNames.{rising_renames_have_few_parts}
use Rattle.ms_calls.proofs.renamings.laws_of_renamings.Goals as goal

pub returns-clause-needs : goal.returns-clause-needs
returns-clause-needs c = renames_need_few_parts

pub returns-clause-measure : goal.returns-clause-measure
returns-clause-measure c = renames_are_within_measure

pub returns-clause-few : goal.returns-clause-few
returns-clause-few c = rising_renames_have_few_parts
