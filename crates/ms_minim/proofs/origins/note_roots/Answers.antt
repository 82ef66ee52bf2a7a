use Rattle.std.proofs.Common.{subst, arith}
use Rattle.ms_arena.specs.declared.node.Ref.{Ref}
use Rattle.ms_minim.specs.inner.Origin.{IsNoted}
use Rattle.ms_minim.proofs.OriginLemmas.{OriginsSoFar-start, OriginsSoFar-next}
use Rattle.ms_minim.proofs.origins.note_roots.Goals as goal

pub loop-state-init : goal.loop-state-init
loop-state-init c =
    OriginsSoFar-start c.args.automaton.now c.states-state-end.ensures.automaton c.args.origins.now c.note.new.origins c.requires.nodes c.requires.states c.requires.none
    (subst (λ (root : Ref). IsNoted c.args.origins.now c.note.new.origins root 0) c.start_ref.ensures.start c.note.ensures)

pub loop-state-preserved : goal.loop-state-preserved
loop-state-preserved c =
    let less = c.loop-state-test.true in
    let states = c.states-state-end.ensures.states in
    let few = c.requires.few in
    OriginsSoFar-next c.args.automaton.now c.states-state-end.ensures.automaton c.loop-state.origins c.note-in-loop-state.new.origins c.loop-state.state c.loop-state.invariant (omega (arith, less, states))
    c.next_ref.result c.next_ref.ensures.next (omega (arith, less, states, few)) c.note-in-loop-state.ensures
