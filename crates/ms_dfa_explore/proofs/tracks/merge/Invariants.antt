use Rattle.std.proofs.Common.{length, ◌≡◌, ◌≤◌, ◌++◌, drop}
use Rattle.ms_dfa.specs.Automaton.{variables_of}
use Rattle.ms_dfa_explore.specs.Tracks.{merged}
use Rattle.ms_dfa_explore.proofs.tracks.merge.Given as goal

-- what has been merged and the merge of the others are the merge of all
abbrev pub invariant-loop-track : goal.invariant-loop-track
invariant-loop-track l =
    (l.place ≤ length l.right)
    × (variables_of l.made ++ merged (variables_of (drop l.track-index l.left)) (variables_of (drop l.place l.right)) ≡ merged (variables_of l.left) (variables_of l.right))

-- what has been merged and the others on the right are the merge of all
abbrev pub invariant-loop-track-2 : goal.invariant-loop-track-2
invariant-loop-track-2 l = variables_of l.made ++ variables_of (drop l.track-index l.track-items) ≡ merged (variables_of l.left) (variables_of l.right)
