use Rattle.std.proofs.Common.{map}
use Rattle.ms_dfafile_outside.proofs.SetsLemmas.{AreSetsSoFar}
use Rattle.ms_dfafile_outside.proofs.numbers.sets_before.Given as goal

abbrev pub invariant-loop-variable : goal.invariant-loop-variable
invariant-loop-variable l = AreSetsSoFar (map (λ v. v.order) l.variables) l.sets l.variable-index l.before
