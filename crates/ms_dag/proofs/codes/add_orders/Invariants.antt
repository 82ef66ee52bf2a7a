use Rattle.std.proofs.Common.{◌≡◌, ◌++◌, ◌∷◌, length, map, take}
use Rattle.ms_dag.specs.inner.Codes.{code_of_order}
use Rattle.ms_dag.proofs.codes.add_orders.Given as goal

abbrev pub invariant-loop-order : goal.invariant-loop-order
invariant-loop-order l = l.codes ≡ l.fn.codes ++ length l.orders ∷ map code_of_order (take l.order-index l.orders)
