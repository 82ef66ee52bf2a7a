use Rattle.ms_text.proofs.OneFault.{one_fault}
use Rattle.ms_text.proofs.laws.one_first_fault.Goals as goal

pub returns-clause-place : goal.returns-clause-place
returns-clause-place c bytes one two cause other is_one is_two = (one_fault 0 bytes is_one.0 is_two.0 one two cause other is_one.1 is_two.1).0

pub returns-clause-cause : goal.returns-clause-cause
returns-clause-cause c bytes one two cause other is_one is_two = (one_fault 0 bytes is_one.0 is_two.0 one two cause other is_one.1 is_two.1).1
