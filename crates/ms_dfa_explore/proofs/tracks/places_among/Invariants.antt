use Rattle.std.proofs.Common.{◌≡◌, ◌≤◌, ◌+◌, ◌++◌, drop, length}
use Rattle.ms_dfa.specs.Automaton.{variables_of}
use Rattle.ms_logic.specs.Assignment.{Variable}
use Rattle.ms_dfa_explore.specs.Tracks.{place_of, places_among}
use Rattle.ms_logic.specs.Lists.{IsAmong}
use Rattle.ms_dfa_explore.proofs.tracks.places_among.Given as goal

-- the places so far and those of the other variables are the places of all; each other variable stands from this place on
abbrev pub invariant-loop-track : goal.invariant-loop-track
invariant-loop-track l =
    (l.from ≤ length l.wide)
    × (l.made ++ places_among (variables_of (drop l.track-index l.narrow)) (variables_of l.wide) ≡ places_among (variables_of l.narrow) (variables_of l.wide))
    × ((v : Variable) → IsAmong (variables_of (drop l.track-index l.narrow)) v → place_of v.name (variables_of l.wide) ≡ l.from + place_of v.name (variables_of (drop l.from l.wide)))
