use Rattle.std.proofs.Common.{◌≡◌, map, take}
use Rattle.ms_lower.proofs.orders.orders.Given as goal

abbrev pub invariant-loop-global : goal.invariant-loop-global
invariant-loop-global l = l.orders ≡ map (λ g. g.order) (take l.global-index l.globals)
