use Rattle.ms_text.proofs.OneFault.{one_list}
use Rattle.ms_text.proofs.laws.one_token_list.Goals as goal

pub returns : goal.returns
returns c bytes one two = one_list 0 bytes one two
