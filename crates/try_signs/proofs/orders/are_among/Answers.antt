use Rattle.std.proofs.Common.{refl}
use Rattle.ms_logic.specs.declared.mode.Order.TheVariants.{Zero}
use Rattle.try_signs.proofs.OrdersLemmas.{AreAllAmong-more}
use Rattle.try_signs.proofs.orders.are_among.Goals as goal

pub loop-track-preserved : goal.loop-track-preserved
loop-track-preserved c = λ later.
    c.loop-track.invariant
    (AreAllAmong-more c.args.some.now c.args.all.now (record { variable = 0; order = Zero }) c.loop-track.track-index c.loop-track-test.true (c.if-not-contains.ensures refl) later)
