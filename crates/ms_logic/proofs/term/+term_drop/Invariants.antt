use Rattle.std.proofs.Common.{◌≤◌}
use Rattle.ms_logic.proofs.term.Term1.TheLaws.{the_size as number_size}
use Rattle.ms_logic.proofs.term.Term2.TheLaws.{the_size as set_size}
use Rattle.ms_logic.proofs.term.+term_drop.Given as goal

-- what is left is no larger than the whole

abbrev pub invariant-Term1::drop-loop-self : goal.invariant-Term1::drop-loop-self
invariant-Term1::drop-loop-self l = number_size l.self ≤ number_size l.fn.self

abbrev pub invariant-Term2::drop-loop-self : goal.invariant-Term2::drop-loop-self
invariant-Term2::drop-loop-self l = set_size l.self ≤ set_size l.fn.self
