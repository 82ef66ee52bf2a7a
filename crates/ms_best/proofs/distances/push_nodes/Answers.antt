use Rattle.std.proofs.Common.{length, ◌∙◌, ap}
use Rattle.ms_best.proofs.Vertices.{mapped_behind}
use Rattle.ms_best.specs.inner.Automaton.{vertex_of_node}
use Rattle.ms_best.proofs.distances.push_nodes.Goals as goal

pub loop-place-preserved : goal.loop-place-preserved
loop-place-preserved c =
    c.in-Ok.ensures.items
    ∙ mapped_behind (vertex_of_node c.args.states (length c.args.store.now.nodes)) c.args.graph.now.items c.args.store.now.nodes c.loop-place.place c.node.result c.node.result c.node_vertex.result
    c.loop-place.graph.items c.node.ensures.held
    (c.node_vertex.ensures ∙ ap (λ n. vertex_of_node c.args.states n c.node.result) c.len-nodes.ensures.len)
    c.loop-place.invariant
