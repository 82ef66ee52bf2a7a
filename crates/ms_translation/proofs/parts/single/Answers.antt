use Rattle.std.proofs.Common.{[], map, ap}
use Rattle.ms_logic.specs.View.{formula_of}
use Rattle.ms_translation.proofs.parts.single.Goals as goal

pub returns-clause-given : goal.returns-clause-given
returns-clause-given c = λ f only. c.with.ensures.given [] f (ap (map formula_of) c.new.ensures) only
