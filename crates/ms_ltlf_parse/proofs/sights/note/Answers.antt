use Rattle.std.proofs.Common.{arith}
use Rattle.std.proofs.lemmas.Map.Text.{text_keys}
use Rattle.ms_ltlf_parse.proofs.sights.note.Goals as goal

pub returns : goal.returns
returns c = λ n. grind (arith, text_keys)
