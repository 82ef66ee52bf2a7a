use Rattle.std.proofs.Common.{◌≤◌}
use Rattle.ms_presburger.proofs.linear.Linear.TheLaws.{the_size}
use Rattle.ms_presburger.proofs.linear.Linear.+drop.Given as goal

-- what is left is no larger than the whole
abbrev pub invariant-loop-self : goal.invariant-loop-self
invariant-loop-self l = the_size l.self ≤ the_size l.fn.self
