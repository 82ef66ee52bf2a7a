use Rattle.std.proofs.Common.{arith}
use Rattle.ms_minim.proofs.HashLemmas.{coarse_by_hashes}
use Rattle.ms_minim.proofs.hashes.hash_marks.Goals as goal

pub returns : goal.returns
returns c =
    coarse_by_hashes c.args.automaton.now c.states-state-end.ensures.automaton c.args.classes.now c.args.hashes.now c.requires c.loop-state.made
    (let count = c.loop-state.invariant.0 in let past = c.loop-state-test.false in let end = c.loop-state.auto.state-end in let states = c.states-state-end.ensures.states in omega (arith, count, past, end, states))
    c.loop-state.invariant.1
