use Rattle.std.proofs.Common.{drop}
use Rattle.try_signs.proofs.OrdersLemmas.{AreAllAmong}
use Rattle.try_signs.proofs.orders.are_among.Given as goal

-- all are among the others where those that are left are
abbrev pub invariant-loop-track : goal.invariant-loop-track
invariant-loop-track l = AreAllAmong (drop l.track-index l.some) l.all → AreAllAmong l.some l.all
