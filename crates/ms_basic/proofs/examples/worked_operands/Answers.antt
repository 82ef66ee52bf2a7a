use Rattle.std.proofs.Common.{◌≡◌, inl, inr, refl, ap}
use Rattle.ms_logic.specs.declared.mode.Order.TheVariants.{One, Two}
use Rattle.ms_logic.specs.Assignment.{Variable}
use Rattle.ms_basic.specs.Operands.{number, set}
use Rattle.ms_basic.proofs.examples.worked_operands.Goals as goal

pub returns-clause-two_orders : goal.returns-clause-two_orders
returns-clause-two_orders c = λ orders.
    let same = orders (number 3) (set 3) (inl refl) (inr (inl refl)) refl in
    let equal : One ≡ Two = ap (λ (v : Variable). v.order) same in cc
