use Rattle.std.proofs.Common.{◌∷◌, [], map, ap}
use Rattle.ms_logic.specs.View.{formula_of}
use Rattle.ms_translation.proofs.parts.pair.Goals as goal

pub returns : goal.returns
returns c = λ f g one other. c.with-2.ensures.given (f ∷ []) g (c.with.ensures.given [] f (ap (map formula_of) c.new.ensures) one) other
