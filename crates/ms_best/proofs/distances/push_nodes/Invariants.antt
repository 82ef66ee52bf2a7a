use Rattle.std.proofs.Common.{◌≡◌, ◌++◌, length, map, take}
use Rattle.ms_best.specs.inner.Automaton.{vertex_of_node}
use Rattle.ms_best.proofs.distances.push_nodes.Given as goal

abbrev pub invariant-loop-place : goal.invariant-loop-place
invariant-loop-place l = l.graph.items ≡ l.initial.graph.items ++ map (vertex_of_node l.states (length l.store.nodes)) (take l.place l.store.nodes)
