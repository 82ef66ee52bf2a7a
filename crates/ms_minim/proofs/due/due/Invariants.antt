use Rattle.ms_minim.proofs.GroupingLemmas.{AreCoveredAt}
use Rattle.ms_minim.proofs.due.due.Given as goal

abbrev pub invariant-loop-class : goal.invariant-loop-class
invariant-loop-class l = AreCoveredAt l.classes l.predecessors l.chosen l.made l.class-index
