use Rattle.ms_minim.specs.inner.Marks.{MarksSoFar}
use Rattle.ms_minim.proofs.marking.marks.Given as goal

-- the states so far have their marks
abbrev pub invariant-loop-state : goal.invariant-loop-state
invariant-loop-state l = MarksSoFar l.images.store.nodes l.images.store.limit l.known l.automaton l.classes l.made l.state
