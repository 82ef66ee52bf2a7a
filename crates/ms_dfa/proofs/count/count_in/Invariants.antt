use Rattle.std.proofs.Common.{◌≡◌, ◌≤◌, take}
use Rattle.ms_logic_words.specs.Content.{count_of}
use Rattle.ms_dfa.specs.Automaton.{variables_of}
use Rattle.ms_dfa.specs.Part.{has_value}
use Rattle.ms_dfa.proofs.count.count_in.Given as goal

-- the tracks so far have been counted, and there are at least as many of them
abbrev pub invariant-loop-track : goal.invariant-loop-track
invariant-loop-track l = (l.count ≡ count_of (has_value l.part) (variables_of (take l.track-index l.tracks))) × (l.count ≤ l.track-index)
