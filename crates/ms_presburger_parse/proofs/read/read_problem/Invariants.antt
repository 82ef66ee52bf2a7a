use Rattle.ms_presburger_parse.specs.inner.Reached.{HasCome}
use Rattle.ms_presburger_parse.proofs.read.read_problem.Given as goal

abbrev pub invariant-loop-i : goal.invariant-loop-i
invariant-loop-i l = HasCome l.tokens l.i l.begun l.outcome
