use Rattle.ms_dfa.specs.Part.{has_value}
use Rattle.ms_best.proofs.LeastValues.{Taken}
use Rattle.ms_best.proofs.least.least_values.Given as goal

abbrev pub invariant-loop-place : goal.invariant-loop-place
invariant-loop-place l = Taken l.automaton l.distances.values.items (has_value l.part) l.fn.root l.place l.values l.reference
