use Rattle.std.proofs.Common.{◌∷◌, []}
use Rattle.ms_translation.proofs.parts.all_hold.Goals as goal

pub returns : goal.returns
returns c = λ f g h one other third. c.conjunction.ensures (f ∷ g ∷ h ∷ []) (c.with.ensures.given (f ∷ g ∷ []) h (c.pair.ensures f g one other) third)
