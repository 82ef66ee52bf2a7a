use Rattle.std.proofs.Common.{ℕ, ◌≤◌, true, false, slice_index, inr, sym, subst}
use Rattle.ms_arena.specs.declared.node.Ref.TheVariants.{Inner}
use Rattle.ms_arena.specs.Reach.{IsTested}
use Rattle.ms_diagram.specs.Across.{IsHalf, IsOn}
use Rattle.ms_diagram.specs.Side.{Side}
use Rattle.ms_diagram.proofs.AcrossLemmas.{first_later, first_within}
use Rattle.ms_diagram.proofs.sides.Renamed.halves.Goals as goal

pub bounds-self-inside-node : goal.bounds-self-inside-node
bounds-self-inside-node c =
    let side : Side = record { nodes = c.self.inside.store.now.nodes; map = c.self.inside.map.now } in
    first_within side c.node-node.ensures.store.ordered c.args.reference (subst (λ (s : Side). IsOn s c.args.reference) (sym c.self.view_is) c.requires.on) c.in-Inner.place c.in-Inner.is c.node-node.result
    c.node-node.ensures.held

pub returns-else-self-node-clause-low : goal.returns-else-self-node-clause-low
returns-else-self-node-clause-low c =
    let side : Side = record { nodes = c.self.inside.store.now.nodes; map = c.self.inside.map.now } in
    subst (λ (s : Side). IsHalf s c.args.var false c.args.reference (Inner c.in-Inner.place)) c.self.view_is
    (inr (first_later side c.node-node.ensures.store.ordered c.args.reference (subst (λ (s : Side). IsOn s c.args.reference) (sym c.self.view_is) c.requires.on) c.in-Inner.place c.in-Inner.is
    c.node-node.result c.node-node.ensures.held c.args.var
    (subst (λ (s : Side). (tested : ℕ) → IsTested s.nodes c.args.reference tested → c.args.var ≤ slice_index s.map tested) (sym c.self.view_is) c.requires.from) c.if-self-node.false))

pub returns-else-self-node-clause-high : goal.returns-else-self-node-clause-high
returns-else-self-node-clause-high c =
    let side : Side = record { nodes = c.self.inside.store.now.nodes; map = c.self.inside.map.now } in
    subst (λ (s : Side). IsHalf s c.args.var true c.args.reference (Inner c.in-Inner.place)) c.self.view_is
    (inr (first_later side c.node-node.ensures.store.ordered c.args.reference (subst (λ (s : Side). IsOn s c.args.reference) (sym c.self.view_is) c.requires.on) c.in-Inner.place c.in-Inner.is
    c.node-node.result c.node-node.ensures.held c.args.var
    (subst (λ (s : Side). (tested : ℕ) → IsTested s.nodes c.args.reference tested → c.args.var ≤ slice_index s.map tested) (sym c.self.view_is) c.requires.from) c.if-self-node.false))
