use Rattle.ms_arena.specs.Diagram.{IsValid}
use Rattle.ms_arena.specs.Halves.{size_of}
use Rattle.try_diagrams.proofs.functions.leaf_at.Given as goal

abbrev pub invariant-loop-at : goal.invariant-loop-at
invariant-loop-at l = IsValid l.store.nodes l.at

abbrev pub decreases-loop-at : goal.decreases-loop-at
decreases-loop-at l = size_of l.at
