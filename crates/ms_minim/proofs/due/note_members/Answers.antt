use Rattle.std.proofs.Common.{slice_index, arith}
use Rattle.std.proofs.lemmas.Option.{slice_get_within, slice_get-get_or}
use Rattle.ms_minim.proofs.GroupingLemmas.{AreNotedAt-more}
use Rattle.ms_minim.proofs.due.note_members.Goals as goal

pub loop-member-preserved : goal.loop-member-preserved
loop-member-preserved c =
    let now = c.in_ok-note_member.ensures in
    AreNotedAt-more c.args.due.now c.loop-member.due c.note_member.new.due c.args.predecessors.now c.args.classes.now c.args.members.now c.args.class c.loop-member.member-index c.loop-member.invariant
    (slice_index c.args.members.now c.loop-member.member-index) (slice_get-get_or c.args.members.now c.loop-member.member-index 0 c.loop-member-test.true) now.later now.noted now.only

pub returns-clause-noted : goal.returns-clause-noted
returns-clause-noted c place state item held in_class listed =
    let less = slice_get_within c.args.members.now place state held in
    let past = c.loop-member-test.false in
    c.loop-member.invariant.noted place state item (omega (arith, less, past)) held in_class listed
