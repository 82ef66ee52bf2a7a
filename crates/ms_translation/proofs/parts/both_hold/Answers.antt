use Rattle.std.proofs.Common.{◌∷◌, []}
use Rattle.ms_translation.proofs.parts.both_hold.Goals as goal

pub returns : goal.returns
returns c = λ f g one other. c.conjunction.ensures (f ∷ g ∷ []) (c.pair.ensures f g one other)
