-- The connective of two children that occur in a source lacks nodes only below the budget of its step.
use Rattle.std.proofs.Common.{ℕ, List}
use Rattle.ms_build.specs.Short.{IsOperand}
use Rattle.ms_build.specs.declared.plan.Plan.{Plan}
use Rattle.ms_build.proofs.PartLemmas.{one_by_place}
use Rattle.ms_dag.specs.Dag.{IsChild}
use Rattle.ms_dag.specs.declared.node.Child.{Child}
use Rattle.ms_logic.specs.declared.mode.Order.{Order}
use Rattle.ms_logic_words.specs.Content.{Content}
use Rattle.ms_logic_words.specs.declared.sign.Sign.{Sign}
use Rattle.ms_product.specs.Combined.{HaveEqualOrders}
use Rattle.ms_build_steps.specs.Laws.{ConnectivesAreWithinBudget}
use Rattle.ms_build_steps.proofs.Operands.{side}
use Rattle.ms_build_steps.proofs.Sides.{within_budget}

-- two children that are read at the same variables have no two variables of one number
equal_orders : (plan : Plan) (i : ℕ) (outer : List Order) (left right : Child) (one other : Content Sign) → IsChild plan.dag.now.entries i outer left → IsChild plan.dag.now.entries i outer right → IsOperand plan left one
    → IsOperand plan right other → HaveEqualOrders one.variables other.variables
equal_orders plan i outer left right one other is_left is_right first second =
    one_by_place outer one.variables other.variables (first.brought outer is_left.ordered).among (second.brought outer is_right.ordered).among

pub connectives_are_within_budget : ConnectivesAreWithinBudget
connectives_are_within_budget imports calls lowered plan number root names op left right f g i outer is is_root at_left at_right is_left is_right lacks files m r measure =
    within_budget op plan.limit lacks.one lacks.other measure.0 measure.1 (equal_orders plan i outer left right lacks.one lacks.other is_left is_right lacks.is_left lacks.is_right)
    (side imports calls lowered plan is number root is_root names left f at_left i outer is_left lacks.one lacks.is_left measure.0 measure.2)
    (side imports calls lowered plan is number root is_root names right g at_right i outer is_right lacks.other lacks.is_right measure.1 measure.3) lacks.short m r measure.4
