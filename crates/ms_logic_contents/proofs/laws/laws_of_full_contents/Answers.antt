use Rattle.ms_logic_contents.proofs.FullContents.{full_contents_are_equal, full_contents_exist}
use Rattle.ms_logic_contents.proofs.laws.laws_of_full_contents.Goals as goal

pub returns-clause-exist : goal.returns-clause-exist
returns-clause-exist c = full_contents_exist

pub returns-clause-equal : goal.returns-clause-equal
returns-clause-equal c = full_contents_are_equal
