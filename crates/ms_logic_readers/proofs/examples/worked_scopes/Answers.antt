use Rattle.std.proofs.Common.{inl, inr, refl}
use Rattle.ms_logic.specs.declared.mode.Order.TheVariants.{Two}
use Rattle.ms_logic_core.specs.Operands.{variable}
use Rattle.ms_logic_readers.proofs.WorkedScopes.{as_they_are, no_number, not_twice, one_lacks, set_0_and_1, turned_round}
use Rattle.ms_logic_readers.proofs.examples.worked_scopes.Goals as goal

pub returns-clause-distinct : goal.returns-clause-distinct
returns-clause-distinct c = set_0_and_1

pub returns-clause-twice : goal.returns-clause-twice
returns-clause-twice c = not_twice

pub returns-clause-over : goal.returns-clause-over
returns-clause-over c = as_they_are

pub returns-clause-turned : goal.returns-clause-turned
returns-clause-turned c = turned_round

pub returns-clause-lacking : goal.returns-clause-lacking
returns-clause-lacking c = λ over. one_lacks (over (variable 1 Two) (inr (inl refl)))

pub returns-clause-other_order : goal.returns-clause-other_order
returns-clause-other_order c = λ over. no_number (over (variable 0 Two) (inl refl))

pub returns-clause-bound : goal.returns-clause-bound
returns-clause-bound c = (tt, as_they_are)
