use Rattle.std.proofs.Common.{◌≡◌, ◌≤◌, ◌++◌, drop}
use Rattle.ms_dfa.specs.Automaton.{variables_of}
use Rattle.ms_logic_words.specs.inner.Decoding.{decoded_values}
use Rattle.ms_best.proofs.decoding.values.Given as goal

abbrev pub invariant-loop-track : goal.invariant-loop-track
invariant-loop-track l = record {
  place : l.place ≤ l.track-index;
  column : l.column ≤ l.track-index;
  sofar : l.found ++ decoded_values l.word l.place l.column (variables_of (drop l.track-index l.tracks)) ≡ decoded_values l.word 0 0 (variables_of l.tracks);
}
