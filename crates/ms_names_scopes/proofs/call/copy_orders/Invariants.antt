use Rattle.std.proofs.Common.{◌≡◌, take}
use Rattle.ms_names_scopes.proofs.call.copy_orders.Given as goal

abbrev pub invariant-loop-order : goal.invariant-loop-order
invariant-loop-order l = l.made ≡ take l.order-index l.orders
