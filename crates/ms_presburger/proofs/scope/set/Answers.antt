use Rattle.std.proofs.Common.{arith}
use Rattle.std.proofs.lemmas.Map.Text.{text_keys}
use Rattle.ms_presburger.proofs.scope.set.Goals as goal

pub returns : goal.returns
returns c = λ name. grind (arith, text_keys)
