use Rattle.ms_dfa.specs.Automaton.{variables_of}
use Rattle.ms_dfafile_adopt.specs.Short.{AreNumbers}
use Rattle.ms_dfafile_adopt.proofs.numbers.numbers.Given as goal

-- the numbers among the tracks so far
abbrev pub invariant-loop-track : goal.invariant-loop-track
invariant-loop-track l = AreNumbers (variables_of l.tracks) l.track-index l.made
