use Rattle.std.proofs.Common.{ap, ◌∙◌, arith}
use Rattle.ms_dfa.specs.Automaton.{states_of}
use Rattle.ms_product.proofs.StateLemmas.{same_states-more}
use Rattle.ms_product.proofs.states.same_states.Goals as goal

pub loop-state-preserved : goal.loop-state-preserved
loop-state-preserved c =
    ap states_of c.in_ok-push.ensures.ok
    ∙ same_states-more c.args.a.now c.loop-state.made c.loop-state.state c.sign-sign.result c.next_ref-next.result c.loop-state.invariant
    (omega (arith, c.loop-state-test.true, c.states-state-end.ensures.states)) c.sign-sign.ensures c.next_ref-next.ensures.next
