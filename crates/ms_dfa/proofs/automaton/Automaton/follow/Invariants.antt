use Rattle.ms_arena.specs.Halves.{size_of}
use Rattle.ms_logic_words.specs.Content.{padded, bits_at, HasValueAt}
use Rattle.ms_dfa.specs.Part.{has_value}
use Rattle.ms_dfa.proofs.Following.{IsOnPath}
use Rattle.ms_dfa.proofs.automaton.Automaton.follow.Given as goal

-- the reference is on the path of the values from the root
abbrev pub invariant-loop-reference : goal.invariant-loop-reference
invariant-loop-reference l =
    IsOnPath l.self.nodes (HasValueAt l.self.variables (has_value l.part))
    (bits_at (padded (has_value l.part) l.self.variables l.values)) l.fn.root l.reference

-- each end is before its node
abbrev pub decreases-loop-reference : goal.decreases-loop-reference
decreases-loop-reference l = size_of l.reference
