-- What the value of a node is.
use Rattle.std.specs.Prelude.{◌≡◌, ◌↔◌, ℕ, ◌<◌, List, map, slice_get, All, Some}
use Rattle.ms_logic.specs.declared.mode.Order.{Order}
use Rattle.ms_logic.specs.Assignment.{Env, Variable}
use Rattle.ms_logic_core.specs.CoreForm.{CoreForm, truth, falsity, basic, negation, conjunction, disjunction, implication, equivalence, restrict, imported, quantified, CoreForms, no_forms, more_forms, CoreRestriction, unrestricted, restricted, CoreYes, CoreNo}
use Rattle.ms_logic_core.specs.Spread.{variables_of_import}
use Rattle.ms_logic_core.specs.Operands.{variable, variables_of_basic, variables_at}
use Rattle.ms_logic.specs.Truth.{Import}
use Rattle.ms_logic_core.specs.Orders.{order_at}
use Rattle.ms_dag.specs.declared.node.DagNode.{DagNode}
use Rattle.ms_dag.specs.declared.node.Entry.{Entry}
use Rattle.ms_dag.specs.Dag.{children_of}
use Rattle.ms_dag.specs.Unfolds.{node_at, Unfolds}
use Rattle.ms_dag.specs.Values.{YesAt, NoAt, NodeYes, NodeNo, ReadsAs}

-- the children of each node have smaller numbers
abbrev pub ChildrenComeFirst : List Entry → Type 0
ChildrenComeFirst entries = (i : ℕ) (node : DagNode) → node_at entries i ≡ Some node → All (λ c. c.node < i) (children_of node)

-- a variable has its order, where the globals have these
abbrev pub HasOrder : List Order → Variable → Type 0
HasOrder orders v = order_at orders v.name ≡ v.order

-- the orders of the variables with these numbers
abbrev pub HaveOrders : List Order → List ℕ → List Order → Type 0
HaveOrders orders names own = map (order_at orders) names ≡ own

-- each variable stands, and is bound, with its order; an import has the orders of its variables
abbrev mutual
  pub HaveTheirOrders : List Import → List Order → CoreForm → Type 0
  HaveTheirOrders imports orders truth = Unit {0}
  HaveTheirOrders imports orders falsity = Unit {0}
  HaveTheirOrders imports orders (basic b) = All (HasOrder orders) (variables_of_basic b)
  HaveTheirOrders imports orders (negation f) = HaveTheirOrders imports orders f
  HaveTheirOrders imports orders (conjunction fs) = EachHasItsOrders imports orders fs
  HaveTheirOrders imports orders (disjunction fs) = EachHasItsOrders imports orders fs
  HaveTheirOrders imports orders (implication f g) = HaveTheirOrders imports orders f × HaveTheirOrders imports orders g
  HaveTheirOrders imports orders (equivalence f g) = HaveTheirOrders imports orders f × HaveTheirOrders imports orders g
  HaveTheirOrders imports orders (restrict f) = HaveTheirOrders imports orders f
  HaveTheirOrders imports orders (imported i xs) = All (HasOrder orders) (variables_at xs (variables_of_import (slice_get imports i)))
  HaveTheirOrders imports orders (quantified q o x d f) =
      HasOrder orders (variable x o) × RestrictionHasItsOrders imports orders d × HaveTheirOrders imports orders f

  pub EachHasItsOrders : List Import → List Order → CoreForms → Type 0
  EachHasItsOrders imports orders no_forms = Unit {0}
  EachHasItsOrders imports orders (more_forms f fs) = HaveTheirOrders imports orders f × EachHasItsOrders imports orders fs

  pub RestrictionHasItsOrders : List Import → List Order → CoreRestriction → Type 0
  RestrictionHasItsOrders imports orders unrestricted = Unit {0}
  RestrictionHasItsOrders imports orders (restricted d) = HaveTheirOrders imports orders d

-- a node has the value of the core formula that it unfolds to
abbrev pub NodeHasValueOfFormula : Type 0
NodeHasValueOfFormula =
    (imports : List Import) (entries : List Entry) (orders : List Order) (f : CoreForm) (names : List ℕ) (i : ℕ) (e c : Env)
    → HaveTheirOrders imports orders f → Unfolds entries f names i → ReadsAs orders names e c
    → (NodeYes imports entries i e ↔ CoreYes imports f c) × (NodeNo imports entries i e ↔ CoreNo imports f c)

-- a node has its value by those of its children
abbrev pub NodeHasValueByChildren : Type 0
NodeHasValueByChildren =
    (imports : List Import) (entries : List Entry) (i : ℕ) (e : Env) → ChildrenComeFirst entries
    → (NodeYes imports entries i e
    ↔ YesAt imports (λ j there. NodeYes imports entries j there) (λ j there. NodeNo imports entries j there) (node_at entries i) e)
    × (NodeNo imports entries i e
    ↔ NoAt imports (λ j there. NodeYes imports entries j there) (λ j there. NodeNo imports entries j there) (node_at entries i) e)
