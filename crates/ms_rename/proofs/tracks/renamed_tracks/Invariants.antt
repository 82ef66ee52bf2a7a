use Rattle.std.proofs.Common.{◌≡◌, ◌++◌, drop}
use Rattle.ms_dfa.specs.Automaton.{variables_of}
use Rattle.ms_rename.specs.Renamed.{renamed}
use Rattle.ms_rename.proofs.tracks.renamed_tracks.Given as goal

-- the tracks so far and those that are left are all
abbrev pub invariant-loop-i : goal.invariant-loop-i
invariant-loop-i l = variables_of l.made ++ renamed (drop l.i l.map) (variables_of (drop l.i l.tracks)) ≡ renamed l.map (variables_of l.tracks)
