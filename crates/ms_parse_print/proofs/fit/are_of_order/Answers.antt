use Rattle.std.proofs.Common.{refl}
use Rattle.std.proofs.lemmas.Bool.{false≢true}
use Rattle.ms_parse_print.proofs.Prefixes.{order_step, order_stop}
use Rattle.ms_parse_print.proofs.fit.are_of_order.Goals as goal

pub returns-then-not-same_order : goal.returns-then-not-same_order
returns-then-not-same_order c = (
  λ never. absurd (false≢true never),
  λ all. c.if-not-same_order.ensures.1 (order_stop c.args.order c.args.bounds.now c.loop-bound.bound-index c.bound-item.result c.loop-bound-test.true c.bound-item.is all),
)

pub loop-bound-preserved : goal.loop-bound-preserved
loop-bound-preserved c =
    order_step c.args.order c.args.bounds.now c.loop-bound.bound-index c.bound-item.result c.loop-bound-test.true c.bound-item.is c.loop-bound.invariant (c.if-not-same_order.ensures.0 refl)
