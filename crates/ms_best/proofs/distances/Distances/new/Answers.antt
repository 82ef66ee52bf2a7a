use Rattle.std.proofs.Common.{List, subst, sym, ◌∙◌}
use Rattle.ms_best.specs.declared.graph.Vertex.{Vertex}
use Rattle.ms_best.specs.inner.Graph.{IsClosed}
use Rattle.ms_best.proofs.Vertices.{graph_is_closed}
use Rattle.ms_best.proofs.distances.Distances.new.Goals as goal

pub distances-requires : goal.distances-requires
distances-requires c =
    subst (λ (graph : List Vertex). IsClosed graph) (sym (c.deref.ensures.value ∙ c.in_ok-graph.ensures))
    (graph_is_closed c.args.automaton.now c.args.sign c.states-states.ensures.automaton)
