use Rattle.std.proofs.Common.{◌≡◌, take}
use Rattle.ms_dfa.specs.Automaton.{variables_of}
use Rattle.ms_logic_words.specs.Content.{zero_letter}
use Rattle.ms_dfafile_adopt.proofs.changes.zeros.Given as goal

-- a letter of the tracks so far
abbrev pub invariant-loop-track : goal.invariant-loop-track
invariant-loop-track l = l.made ≡ zero_letter (variables_of (take l.track-index l.tracks))
