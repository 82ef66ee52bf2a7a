use Rattle.std.proofs.Common.{◌<◌, arith}
use Rattle.std.proofs.lemmas.Option.{slice_get_within}
use Rattle.ms_minim.proofs.GroupingLemmas.{AreNoted-more}
use Rattle.ms_minim.proofs.due.note_due.Goals as goal

pub loop-state-preserved : goal.loop-state-preserved
loop-state-preserved c =
    AreNoted-more c.args.due.now c.loop-state.due c.number.new.known c.args.states.now c.loop-state.state-index c.in_ok-number.field-0 c.loop-state.invariant c.loop-state-test.true
    c.in_ok-number.ensures.number c.in_ok-number.ensures.numbers

pub returns-clause-noted : goal.returns-clause-noted
returns-clause-noted c place state held =
    let less = slice_get_within c.args.states.now place state held in
    let past = c.loop-state-test.false in
    let in_all : place < c.loop-state.state-index = omega (arith, less, past) in
    c.loop-state.invariant.1 place state in_all held
