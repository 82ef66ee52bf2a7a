use Rattle.ms_text.proofs.BlankBehind.{list_before_blank}
use Rattle.ms_text.proofs.laws.blank_behind.Goals as goal

pub returns : goal.returns
returns c bytes tokens b = list_before_blank 0 bytes tokens b
