use Rattle.std.proofs.Common.{arith}
use Rattle.std.proofs.lemmas.Map.Text.{text_keys}
use Rattle.ms_presburger_parse.proofs.free.set_standing.Goals as goal

pub returns-clause-ok : goal.returns-clause-ok
returns-clause-ok c = λ x. grind (arith, text_keys)
