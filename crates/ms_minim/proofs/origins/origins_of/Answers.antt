use Rattle.std.proofs.Common.{◌≡◌, length, subst, arith}
use Rattle.ms_minim.specs.inner.Origin.{OriginsSoFar}
use Rattle.ms_minim.proofs.origins.origins_of.Goals as goal

pub returns : goal.returns
returns c =
    let none : c.loop-left.left ≡ 0 = let past = c.loop-left-test.false in omega (arith, past) in
    subst (OriginsSoFar c.args.automaton.now c.loop-left.origins (length c.args.automaton.now.states)) none c.loop-left.invariant.0
