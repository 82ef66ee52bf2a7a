use Rattle.ms_build_steps.proofs.SmallBudgets.{relation_not_below, root_below, root_not_below}
use Rattle.ms_build_steps.proofs.examples.worked_kinds.Goals as goal

pub returns-clause-below_root : goal.returns-clause-below_root
returns-clause-below_root c = root_below

pub returns-clause-not_below_root : goal.returns-clause-not_below_root
returns-clause-not_below_root c is = root_not_below is

pub returns-clause-no_widening : goal.returns-clause-no_widening
returns-clause-no_widening c files m r is = is

pub returns-clause-not_below_relation : goal.returns-clause-not_below_relation
returns-clause-not_below_relation c is = relation_not_below is
