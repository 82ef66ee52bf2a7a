use Rattle.std.proofs.Common.{◌≡◌, drop}
use Rattle.ms_dfa.specs.Automaton.{variables_of}
use Rattle.ms_project.specs.Marks.{has_no_number}
use Rattle.ms_project.proofs.marks.has_no_number.Given as goal

abbrev pub invariant-loop-track : goal.invariant-loop-track
invariant-loop-track l = has_no_number (variables_of (drop l.track-index l.tracks)) ≡ has_no_number (variables_of l.tracks)
