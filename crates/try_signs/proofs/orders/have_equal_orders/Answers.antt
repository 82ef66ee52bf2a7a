use Rattle.std.proofs.Common.{refl}
use Rattle.ms_logic.specs.declared.mode.Order.TheVariants.{Zero}
use Rattle.try_signs.proofs.OrdersLemmas.{HaveEqualOrders-more}
use Rattle.try_signs.proofs.orders.have_equal_orders.Goals as goal

pub loop-track-preserved : goal.loop-track-preserved
loop-track-preserved c = λ later.
    c.loop-track.invariant
    (HaveEqualOrders-more c.args.left.now c.args.right.now (record { variable = 0; order = Zero }) c.loop-track.track-index c.loop-track-test.true (c.if-not-agrees.ensures refl) later)
