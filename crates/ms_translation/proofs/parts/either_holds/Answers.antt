use Rattle.std.proofs.Common.{◌∷◌, []}
use Rattle.ms_translation.proofs.parts.either_holds.Goals as goal

pub returns : goal.returns
returns c = λ f g one other. c.disjunction.ensures (f ∷ g ∷ []) (c.pair.ensures f g one other)
