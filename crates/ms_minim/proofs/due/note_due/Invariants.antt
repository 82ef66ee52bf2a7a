use Rattle.ms_minim.proofs.GroupingLemmas.{AreNoted}
use Rattle.ms_minim.proofs.due.note_due.Given as goal

abbrev pub invariant-loop-state : goal.invariant-loop-state
invariant-loop-state l = AreNoted l.initial.due l.due l.states l.state-index
