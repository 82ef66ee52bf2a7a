use Rattle.std.proofs.Common.{◌≡◌, take}
use Rattle.ms_lower.specs.Bodies.{named_at}
use Rattle.ms_lower.proofs.bodies.named_at.Given as goal

abbrev pub invariant-loop-i : goal.invariant-loop-i
invariant-loop-i l = l.named ≡ named_at l.globals (take l.i l.params) (take l.i l.variables)
