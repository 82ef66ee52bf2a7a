use Rattle.std.proofs.Common.{◌<◌, length, ap, ◌∙◌, arith}
use Rattle.ms_diagram.specs.Leaves.{leaves_of}
use Rattle.ms_minim.proofs.PredecessorsLemmas.{PredecessorsSoFar-more}
use Rattle.ms_minim.proofs.predecessors.predecessors.Goals as goal

pub loop-state-init : goal.loop-state-init
loop-state-init c = record {
  count = c.in_ok-made.ensures.count ∙ c.states.ensures.states;
  listed = λ state less bits. absurd (omega (arith, less));
  below = c.in_ok-made.ensures.below (length c.args.automaton.now.states);
}

pub loop-state-preserved : goal.loop-state-preserved
loop-state-preserved c =
    let content = c.args.automaton.now in
    let within : c.loop-state.state < length content.states = let less = c.loop-state-test.true in let end = c.states-state-end.ensures.states in omega (arith, less, end) in
    let leaves_are = c.slice.ensures ∙ c.in_ok-leaves.ensures ∙ ap (λ nodes. leaves_of nodes c.next_ref-root.result) c.store.ensures in
    PredecessorsSoFar-more content c.states.ensures.automaton c.loop-state.made.items c.note.new.lists.items c.loop-state.state c.loop-state.invariant within c.next_ref-root.result c.next_ref-root.ensures.next
    c.next_ref-root.ensures.followed.valid c.slice.result.now leaves_are c.in_ok-note.ensures.count c.in_ok-note.ensures.kept c.in_ok-note.ensures.noted c.in_ok-note.ensures.below
