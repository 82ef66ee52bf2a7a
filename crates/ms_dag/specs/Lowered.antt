-- What lowering promises of its answer.
use Rattle.std.specs.Prelude.{◌≡◌, List, map}
use Rattle.std.specs.List.Sorted.{IsStrictlyIncreasing}
use Rattle.ms_logic_core.specs.declared.core_formula.Lowered.{Lowered}
use Rattle.ms_logic_core.specs.declared.core_formula.Root as code
use Rattle.ms_logic.specs.declared.mode.Order.{Order}
use Rattle.ms_logic.specs.Assignment.{Variable}
use Rattle.ms_logic_core.specs.CoreForm.{core_form_of}
use Rattle.ms_logic.specs.Truth.{Import}
use Rattle.ms_logic.specs.Lists.{Each}
use Rattle.ms_logic_core.specs.Calls.{Calls, filled}
use Rattle.ms_logic_core.specs.Stands.{Stands}
use Rattle.ms_dag.specs.Laws.{HasOrder, HaveTheirOrders}

-- a root over a rising list of variables, each of which has its order: with what its imports stand for in their places, the variables of its
-- formula stand in their scopes, and each of them has its order, too
pub record IsLoweredRoot (imports : List Import) (calls : Calls) (orders : List Order) (root : code.Root) : Type 0 where
  pub rising : IsStrictlyIncreasing root.variables
  pub own : List Variable
  pub variables : map (λ v. v.name) own ≡ root.variables
  pub listed : Each (HasOrder orders) own
  pub stands : Stands imports own (filled calls (core_form_of root.core))
  pub orders_of_all : HaveTheirOrders imports orders (filled calls (core_form_of root.core))

pub record IsLowered (imports : List Import) (calls : Calls) (lowered : Lowered) : Type 0 where
  pub roots : Each (IsLoweredRoot imports calls lowered.orders) lowered.roots
