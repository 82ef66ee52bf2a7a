use Rattle.std.proofs.Common.{ap, ◌∙◌, arith}
use Rattle.ms_dfa.specs.Automaton.{states_of}
use Rattle.ms_product.specs.Signs.{change_by}
use Rattle.ms_product.proofs.ChangeLemmas.{states-more}
use Rattle.ms_product.proofs.change.changed_states.Goals as goal

pub loop-state-preserved : goal.loop-state-preserved
loop-state-preserved c =
    ap states_of c.in_ok-push.ensures.ok
    ∙ states-more (change_by c.args.change) c.args.a.now c.loop-state.made c.loop-state.state c.sign.result c.change_by-sign.result c.next_ref-next.result c.loop-state.invariant
    (omega (arith, c.loop-state-test.true, c.states-state-end.ensures.states)) c.sign.ensures c.change_by-sign.ensures c.next_ref-next.ensures.next
