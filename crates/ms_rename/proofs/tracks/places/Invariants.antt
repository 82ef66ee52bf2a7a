use Rattle.std.proofs.Common.{◌≡◌, take}
use Rattle.ms_dfa.specs.Automaton.{variables_of}
use Rattle.ms_dfa_explore.specs.Tracks.{places_among}
use Rattle.ms_rename.proofs.tracks.places.Given as goal

-- the places so far
abbrev pub invariant-loop-track : goal.invariant-loop-track
invariant-loop-track l = l.made ≡ places_among (variables_of (take l.track-index l.tracks)) (variables_of l.among)
