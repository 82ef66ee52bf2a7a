use Rattle.std.proofs.Common.{◌≡◌, ◌++◌, drop, length}
use Rattle.ms_dfa.specs.Automaton.{variables_of}
use Rattle.ms_project.specs.Paired.{places_left}
use Rattle.ms_logic.specs.Lists.{without}
use Rattle.ms_project.proofs.leave_out.leave_out.Given as goal

-- what has been left and what is left of the others are the rest of all
abbrev pub invariant-loop-track : goal.invariant-loop-track
invariant-loop-track l = record {
  rest : variables_of l.rest ++ without l.name (variables_of (drop l.track-index l.tracks)) ≡ without l.name (variables_of l.tracks);
  back : l.back ++ places_left l.name (length l.rest) (variables_of (drop l.track-index l.tracks)) ≡ places_left l.name 0 (variables_of l.tracks);
}
