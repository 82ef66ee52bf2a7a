use Rattle.std.proofs.Common.{take}
use Rattle.ms_dag.specs.Laws.{HaveOrders}
use Rattle.ms_dag.proofs.connectives.orders_at.Given as goal

abbrev pub invariant-loop-name : goal.invariant-loop-name
invariant-loop-name l = HaveOrders l.orders (take l.name-index l.names) l.made
