use Rattle.std.proofs.Common.{◌<◌, length, ◌∙◌, arith}
use Rattle.std.proofs.lemmas.Option.{MatchOption-at_some}
use Rattle.ms_arena.proofs.Lists.{slice_get-held}
use Rattle.ms_best.specs.inner.Automaton.{vertex_of_state}
use Rattle.ms_best.proofs.Vertices.{mapped_more}
use Rattle.ms_best.proofs.distances.state_vertices.Goals as goal

pub loop-state-preserved : goal.loop-state-preserved
loop-state-preserved c =
    let within : c.loop-state.state < length c.args.automaton.now.states = omega (arith, c.loop-state-test.true, c.states-state-end.ensures.states) in
    let held = slice_get-held c.args.automaton.now.states c.loop-state.state within in
    c.in-Ok.ensures.items
    ∙ mapped_more (vertex_of_state (length c.args.automaton.now.states) c.args.nodes c.args.sign) c.args.automaton.now.states c.loop-state.state held.0 held.0 c.state_vertex.result c.loop-state.made.items
    held.1 (MatchOption-at_some _ _ held.0 held.1 c.state_vertex.ensures) c.loop-state.invariant
