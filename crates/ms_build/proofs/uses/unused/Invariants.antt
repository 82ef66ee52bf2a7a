use Rattle.std.proofs.Common.{◌≡◌, replicate}
use Rattle.ms_build.proofs.uses.unused.Given as goal

-- so many nodes, none of which is used
abbrev pub invariant-loop : goal.invariant-loop
invariant-loop l = l.last.items ≡ replicate l.counter 0
