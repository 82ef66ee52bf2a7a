use Rattle.std.proofs.Common.{slice_index, arith}
use Rattle.std.proofs.lemmas.Option.{slice_get_within, slice_get-get_or}
use Rattle.ms_minim.proofs.GroupingLemmas.{AreCoveredAt-more}
use Rattle.ms_minim.proofs.due.due.Goals as goal

pub loop-class-preserved : goal.loop-class-preserved
loop-class-preserved c =
    let now = c.in_ok-note_class.ensures in
    AreCoveredAt-more c.args.classes.now c.args.predecessors.now c.args.chosen.now c.loop-class.made c.note_class.new.due c.loop-class.class-index c.loop-class.invariant
    (slice_index c.args.chosen.now c.loop-class.class-index) (slice_get-get_or c.args.chosen.now c.loop-class.class-index 0 c.loop-class-test.true) now.later now.noted now.only

pub returns-clause-covered : goal.returns-clause-covered
returns-clause-covered c state class item in_class chosen listed =
    let less = slice_get_within c.args.chosen.now chosen.0 class chosen.1 in
    let past = c.loop-class-test.false in
    c.loop-class.invariant.covered chosen.0 state class item (omega (arith, less, past)) chosen.1 in_class listed
