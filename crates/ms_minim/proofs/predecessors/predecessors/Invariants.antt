use Rattle.ms_minim.specs.inner.Predecessors.{PredecessorsSoFar}
use Rattle.ms_minim.proofs.predecessors.predecessors.Given as goal

abbrev pub invariant-loop-state : goal.invariant-loop-state
invariant-loop-state l = PredecessorsSoFar l.automaton l.made.items l.state
