use Rattle.std.proofs.Common.{take}
use Rattle.ms_dag.specs.Places.{AreAt}
use Rattle.ms_dag.proofs.rising.places.Given as goal

abbrev pub invariant-loop-name : goal.invariant-loop-name
invariant-loop-name l = AreAt l.among l.made (take l.name-index l.names)
