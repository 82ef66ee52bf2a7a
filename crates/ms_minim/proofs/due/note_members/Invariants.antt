use Rattle.ms_minim.proofs.GroupingLemmas.{AreNotedAt}
use Rattle.ms_minim.proofs.due.note_members.Given as goal

abbrev pub invariant-loop-member : goal.invariant-loop-member
invariant-loop-member l = AreNotedAt l.initial.due l.due l.predecessors l.classes l.members l.class l.member-index
