use Rattle.std.proofs.Common.{take}
use Rattle.ms_dag.specs.inner.Maps.{AreTheSameIn}
use Rattle.ms_dag.proofs.maps.placed_each.Given as goal

abbrev pub invariant-loop-child : goal.invariant-loop-child
invariant-loop-child l = AreTheSameIn l.among (take l.child-index l.children) l.made
