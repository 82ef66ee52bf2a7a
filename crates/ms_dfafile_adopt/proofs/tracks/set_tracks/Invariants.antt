use Rattle.std.proofs.Common.{◌≡◌, take}
use Rattle.ms_dfa.specs.Automaton.{variables_of}
use Rattle.ms_dfafile_adopt.specs.Sets.{as_sets}
use Rattle.ms_dfafile_adopt.proofs.tracks.set_tracks.Given as goal

-- the tracks so far
abbrev pub invariant-loop-track : goal.invariant-loop-track
invariant-loop-track l = variables_of l.made ≡ as_sets (variables_of (take l.track-index l.tracks))
