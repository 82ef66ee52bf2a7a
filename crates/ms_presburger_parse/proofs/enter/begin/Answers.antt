use Rattle.std.proofs.Common.{subst}
use Rattle.ms_presburger_parse.specs.inner.States.{MovesTo, place_of}
use Rattle.ms_presburger_parse.proofs.Steps.{comes_begun, stops_begun}
use Rattle.ms_presburger_parse.proofs.enter.begin.Goals as goal

pub returns-then-not-deepen : goal.returns-then-not-deepen
returns-then-not-deepen c move p two moved same =
    let next = subst (MovesTo (move p)) c.in_ok-place.was moved in
    stops_begun move c.args.begun.now.frames p (place_of c.in_ok-place.place) c.args.begun.now.deepest c.deepen.new.self two next same (c.deepen.ensures.deep c.if-not-deepen.true)

pub returns : goal.returns
returns c move p two moved same =
    let next = subst (MovesTo (move p)) c.in_ok-place.was moved in
    let kept = c.deepen.ensures.fits c.if-not-deepen.false in
    comes_begun move c.args.begun.now.frames p c.in_ok-place.place c.args.begun.now.deepest c.deepen.new.self two next same c.deepen.ensures.frames kept.0 kept.1
