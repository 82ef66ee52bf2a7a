use Rattle.std.proofs.Common.{◌≡◌, drop}
use Rattle.ms_dfa.specs.Automaton.{variables_of}
use Rattle.ms_dfa_explore.specs.Tracks.{distinct, gathered_with}
use Rattle.ms_dfa_explore.proofs.tracks.distinct.Given as goal

-- the others merged to what there is are the distinct tracks of all
abbrev pub invariant-loop-place : goal.invariant-loop-place
invariant-loop-place l = gathered_with (variables_of l.made) (variables_of (drop l.place-index l.places)) ≡ distinct (variables_of l.places)
