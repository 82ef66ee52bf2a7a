use Rattle.std.proofs.Common.{length, ◌-◌, ◌≡◌, ◌≤◌, ◌++◌, drop}
use Rattle.ms_dfa.specs.Automaton.{variables_of}
use Rattle.ms_dfa_explore.specs.Tracks.{before, from}
use Rattle.ms_dfa_explore.proofs.tracks.push_below.Given as goal

-- what has been pushed and what is below among the others are all that is below; the same tracks are behind
abbrev pub invariant-loop-next : goal.invariant-loop-next
invariant-loop-next l =
    (l.next ≤ length l.tracks)
    × (variables_of l.made ++ before l.variable (variables_of (drop l.next l.tracks)) ≡ variables_of l.fn.made ++ before l.variable (variables_of (drop l.place l.tracks)))
    × (from l.variable (variables_of (drop l.next l.tracks)) ≡ from l.variable (variables_of (drop l.place l.tracks)))

abbrev pub decreases-loop-next : goal.decreases-loop-next
decreases-loop-next l = length l.tracks - l.next
