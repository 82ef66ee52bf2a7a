use Rattle.ms_ltlf_parse.specs.inner.Reached.{HasCome}
use Rattle.ms_ltlf_parse.proofs.read.read_trace.Given as goal

abbrev pub invariant-loop-i : goal.invariant-loop-i
invariant-loop-i l = HasCome l.tokens l.i l.reader l.outcome
