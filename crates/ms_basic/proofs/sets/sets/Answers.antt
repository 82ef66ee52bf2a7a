use Rattle.std.proofs.Common.{true, take}
use Rattle.ms_logic_core.specs.Operands.{variables_of_basic}
use Rattle.ms_basic.proofs.ReachedOverLemmas.{constant_reached, relation_orders, relation_reached}
use Rattle.ms_basic.proofs.RepeatedLemmas.{decides_itself}
use Rattle.ms_basic.proofs.SetsLemmas.{all_operands, decides_sets}
use Rattle.ms_basic.proofs.sets.sets.Goals as goal

pub made-requires-clause-orders : goal.made-requires-clause-orders
made-requires-clause-orders c = rw c.sets_form-form.ensures (relation_orders c.args.relation c.args.operands.0 c.args.operands.1 c.args.operands.2)

pub made-requires-clause-decides : goal.made-requires-clause-decides
made-requires-clause-decides c =
    rw c.sets_form-form.ensures (decides_itself c.args.setting.mode c.args.relation c.args.operands.0 c.args.operands.1 c.args.operands.2 (rw (← c.is_of_itself.ensures) c.if-is_of_itself.true))

pub made-requires-clause-reached : goal.made-requires-clause-reached
made-requires-clause-reached c = constant_reached (take 1 (variables_of_basic c.sets_form-form.result)) true

pub made-requires-2-clause-orders : goal.made-requires-2-clause-orders
made-requires-2-clause-orders c = rw c.sets_form-form.ensures (relation_orders c.args.relation c.args.operands.0 c.args.operands.1 c.args.operands.2)

pub made-requires-2-clause-decides : goal.made-requires-2-clause-decides
made-requires-2-clause-decides c =
    rw (c.count.ensures, c.sets_form-form.ensures, all_operands c.args.relation c.args.operands.0 c.args.operands.1 c.args.operands.2)
    (decides_sets c.args.setting.mode c.args.relation c.args.operands.0 c.args.operands.1 c.args.operands.2)

pub made-requires-2-clause-reached : goal.made-requires-2-clause-reached
made-requires-2-clause-reached c =
    rw (c.count.ensures, c.sets_form-form.ensures, all_operands c.args.relation c.args.operands.0 c.args.operands.1 c.args.operands.2)
    (relation_reached c.args.relation c.args.operands.0 c.args.operands.1 c.args.operands.2 (rw (← c.is_of_itself.ensures) c.if-is_of_itself.false))
