use Rattle.std.proofs.Common.{◌≤◌}
use Rattle.ms_logic.proofs.formula.Formula.TheLaws.{the_size}
use Rattle.ms_logic.proofs.+formula_drop.Given as goal

-- what is left is no larger than the whole
abbrev pub invariant-formula::Formula::drop-loop-self : goal.invariant-formula::Formula::drop-loop-self
invariant-formula::Formula::drop-loop-self l = the_size l.self ≤ the_size l.fn.self
