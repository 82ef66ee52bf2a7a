use Rattle.std.proofs.Common.{drop}
use Rattle.ms_dfa.specs.Automaton.{variables_of}
use Rattle.ms_product.specs.Combined.{HaveEqualOrders}
use Rattle.try_signs.proofs.orders.have_equal_orders.Given as goal

-- all agree where the others do
abbrev pub invariant-loop-track : goal.invariant-loop-track
invariant-loop-track l = HaveEqualOrders (variables_of (drop l.track-index l.left)) (variables_of l.right) → HaveEqualOrders (variables_of l.left) (variables_of l.right)
