use Rattle.std.proofs.Common.{◌≡◌, replicate}
use Rattle.ms_minim.proofs.grouping.zeros.Given as goal

abbrev pub invariant-loop : goal.invariant-loop
invariant-loop l = l.made.items ≡ replicate l.counter 0
