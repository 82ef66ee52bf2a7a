use Rattle.std.proofs.Common.{ℕ, ◌≤◌, slice_index, sym, subst, arith}
use Rattle.ms_arena.specs.Reach.{IsTested}
use Rattle.ms_diagram.specs.Across.{IsOn}
use Rattle.ms_diagram.specs.Side.{Side}
use Rattle.ms_diagram.proofs.AcrossLemmas.{first_read, first_within}
use Rattle.ms_diagram.proofs.sides.Renamed.level.Goals as goal

pub bounds-self-inside-node : goal.bounds-self-inside-node
bounds-self-inside-node c =
    let side : Side = record { nodes = c.self.inside.store.now.nodes; map = c.self.inside.map.now } in
    first_within side c.node.ensures.store.ordered c.args.reference (subst (λ (s : Side). IsOn s c.args.reference) (sym c.self.view_is) c.requires) c.in-Inner.place c.in-Inner.is c.node.result c.node.ensures.held

pub returns-in-Inner-clause-least : goal.returns-in-Inner-clause-least
returns-in-Inner-clause-least c =
    let side : Side = record { nodes = c.self.inside.store.now.nodes; map = c.self.inside.map.now } in
    subst (λ (s : Side). (tested : ℕ) → IsTested s.nodes c.args.reference tested → c.from.result ≤ slice_index s.map tested) c.self.view_is
    (λ tested at.
    let least = first_read side c.node.ensures.store.ordered c.args.reference (subst (λ (s : Side). IsOn s c.args.reference) (sym c.self.view_is) c.requires) c.in-Inner.place c.in-Inner.is
    c.node.result c.node.ensures.held tested at in
    let is = c.from.ensures in
    omega (arith, least, is))
