use Rattle.std.proofs.Common.{◌≡◌, ◌++◌, drop}
use Rattle.ms_dfa.specs.Automaton.{variables_of}
use Rattle.ms_dfa.specs.Part.{has_value}
use Rattle.ms_dfa_explore.specs.Small.{places_of}
use Rattle.ms_dfa_explore.proofs.builder.places.Given as goal

-- the places so far and those of the other tracks are the places of all
abbrev pub invariant-loop-track : goal.invariant-loop-track
invariant-loop-track l =
    (l.place ≡ l.track-index)
    × (l.made ++ places_of (has_value l.part) l.place (variables_of (drop l.track-index l.tracks)) ≡ places_of (has_value l.part) 0 (variables_of l.tracks))
