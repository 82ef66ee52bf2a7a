use Rattle.std.proofs.Common.{◌≡◌, ◌≤◌, ◌+◌, ◌-◌, drop, length}
use Rattle.ms_dfa.specs.Automaton.{variables_of}
use Rattle.ms_dfa_explore.specs.Tracks.{place_of}
use Rattle.ms_dfa_explore.proofs.tracks.seek.Given as goal

-- the place among the other tracks is so much less
abbrev pub invariant-loop-place : goal.invariant-loop-place
invariant-loop-place l =
    (l.place ≤ length l.tracks)
    × (l.from + place_of l.variable (variables_of (drop l.from l.tracks)) ≡ l.place + place_of l.variable (variables_of (drop l.place l.tracks)))

abbrev pub decreases-loop-place : goal.decreases-loop-place
decreases-loop-place l = length l.tracks - l.place
