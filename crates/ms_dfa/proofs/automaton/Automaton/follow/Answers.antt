use Rattle.std.proofs.Common.{◌<◌, ◌≤◌, ℕ, true, false, length, slice_index_or, refl, arith, ap, sym, subst, ◌∙◌}
use Rattle.std.proofs.lemmas.List.{length-take-le}
use Rattle.ms_arena.specs.declared.node.Ref.{Ref}
use Rattle.ms_arena.specs.Diagram.{leaf_of}
use Rattle.ms_arena.proofs.Paths.{leaf_of-leaf}
use Rattle.ms_logic_words.specs.Content.{padded, bits_at}
use Rattle.ms_dfa.specs.Part.{has_value}
use Rattle.ms_dfa.proofs.Following.{step_in, counted_in, length_in}
use Rattle.ms_dfa.proofs.automaton.Automaton.follow.Goals as goal

pub returns-in-Leaf : goal.returns-in-Leaf
returns-in-Leaf c =
    sym (leaf_of-leaf c.args.self.now.nodes (bits_at (padded (has_value c.args.part) c.args.self.now.variables c.args.values.now)) c.in-Leaf.state)
    ∙ ap (λ (reference : Ref). leaf_of c.args.self.now.nodes reference (bits_at (padded (has_value c.args.part) c.args.self.now.variables c.args.values.now))) (sym c.in-Leaf.is)
    ∙ c.loop-reference.invariant.leaf

pub slice_bounds-count_in-end : goal.slice_bounds-count_in-end
slice_bounds-count_in-end c =
    let step = step_in _ _ c.self.view_is c.self.invariant.ordered (has_value c.args.part) c.args.values.now c.args.root c.loop-reference.reference c.in-Inner.place
    c.node-node.result c.requires.values c.loop-reference.invariant c.in-Inner.is c.node-node.ensures.held in
    let count = length_in _ _ c.self.view_is c.self.inside.tracks c.slice-tracks.result.now refl c.slice-tracks.ensures in
    let within : c.node-node.result.var ≤ length c.slice-tracks.result.now = omega (arith, step.variable) in
    sym (length-take-le c.node-node.result.var c.slice-tracks.result.now within)

pub bounds-values-count_in : goal.bounds-values-count_in
bounds-values-count_in c =
    let step = step_in _ _ c.self.view_is c.self.invariant.ordered (has_value c.args.part) c.args.values.now c.args.root c.loop-reference.reference c.in-Inner.place
    c.node-node.result c.requires.values c.loop-reference.invariant c.in-Inner.is c.node-node.ensures.held in
    let count = counted_in _ _ c.self.view_is (has_value c.args.part) c.self.inside.tracks c.slice-tracks.result.now c.node-node.result.var c.count_in.result
    refl c.slice-tracks.ensures c.count_in.ensures in
    subst (λ (n : ℕ). n < length c.args.values.now) (sym count) step.within

pub loop-reference-preserved-then-value : goal.loop-reference-preserved-then-value
loop-reference-preserved-then-value c =
    let step = step_in _ _ c.self.view_is c.self.invariant.ordered (has_value c.args.part) c.args.values.now c.args.root c.loop-reference.reference c.in-Inner.place
    c.node-node.result c.requires.values c.loop-reference.invariant c.in-Inner.is c.node-node.ensures.held in
    let count = counted_in _ _ c.self.view_is (has_value c.args.part) c.self.inside.tracks c.slice-tracks.result.now c.node-node.result.var c.count_in.result
    refl c.slice-tracks.ensures c.count_in.ensures in
    step.next true (ap (λ (n : ℕ). slice_index_or c.args.values.now n false) (sym count) ∙ c.if-value.true)

pub loop-reference-preserved : goal.loop-reference-preserved
loop-reference-preserved c =
    let step = step_in _ _ c.self.view_is c.self.invariant.ordered (has_value c.args.part) c.args.values.now c.args.root c.loop-reference.reference c.in-Inner.place
    c.node-node.result c.requires.values c.loop-reference.invariant c.in-Inner.is c.node-node.ensures.held in
    let count = counted_in _ _ c.self.view_is (has_value c.args.part) c.self.inside.tracks c.slice-tracks.result.now c.node-node.result.var c.count_in.result
    refl c.slice-tracks.ensures c.count_in.ensures in
    step.next false (ap (λ (n : ℕ). slice_index_or c.args.values.now n false) (sym count) ∙ c.if-value.false)
