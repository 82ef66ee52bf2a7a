use Rattle.ms_logic.proofs.OrderLaws.{bound_is_least, before_is_irreflexive, before_is_transitive, before_is_total}
use Rattle.ms_logic.proofs.laws.laws_of_order.Goals as goal

pub returns-clause-bound_is_least : goal.returns-clause-bound_is_least
returns-clause-bound_is_least c = bound_is_least

pub returns-clause-irreflexive : goal.returns-clause-irreflexive
returns-clause-irreflexive c = before_is_irreflexive

pub returns-clause-transitive : goal.returns-clause-transitive
returns-clause-transitive c = before_is_transitive

pub returns-clause-total : goal.returns-clause-total
returns-clause-total c = before_is_total
