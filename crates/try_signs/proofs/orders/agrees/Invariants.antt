use Rattle.std.proofs.Common.{drop}
use Rattle.try_signs.proofs.OrdersLemmas.{AgreesWith}
use Rattle.try_signs.proofs.orders.agrees.Given as goal

-- the track agrees with all where it agrees with the others
abbrev pub invariant-loop-other : goal.invariant-loop-other
invariant-loop-other l = AgreesWith l.track (drop l.other-index l.tracks) → AgreesWith l.track l.tracks
