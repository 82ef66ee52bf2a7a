use Rattle.std.proofs.Common.{◌≡◌, length, map, take}
use Rattle.ms_best.specs.inner.Automaton.{vertex_of_state}
use Rattle.ms_best.proofs.distances.state_vertices.Given as goal

abbrev pub invariant-loop-state : goal.invariant-loop-state
invariant-loop-state l = l.made.items ≡ map (vertex_of_state (length l.automaton.states) l.nodes l.fn.sign) (take l.state l.automaton.states)
