-- Formulas that stand in a graph, while it grows.
use Rattle.std.specs.Prelude.{◌≡◌, ℕ, ◌<◌, ◌≤◌, List, [], ◌∷◌, ◌++◌, length, slice_get, Some}
use Rattle.std.specs.List.Sorted.{IsStrictlyIncreasing}
use Rattle.ms_logic_core.specs.declared.core_formula.Root.{Root}
use Rattle.ms_logic.specs.declared.mode.Order.{Order}
use Rattle.ms_logic_core.specs.CoreForm.{CoreForm, CoreForms, no_forms, more_forms}
use Rattle.ms_logic_core.specs.Calls.{Calls}
use Rattle.ms_dag.specs.declared.dag.SharedRoot.{SharedRoot}
use Rattle.ms_dag.specs.declared.node.Child.{Child}
use Rattle.ms_dag.specs.declared.node.DagNode.{DagNode}
use Rattle.ms_dag.specs.declared.node.Entry.{Entry}
use Rattle.ms_diagram.specs.Numbering.{Numbers}
use Rattle.ms_dag.specs.Dag.{AreNodes, IsUsed, children_of, places_in_maps}
use Rattle.ms_dag.specs.Laws.{HaveOrders}
use Rattle.ms_dag.specs.inner.Maps.{AreTheSameIn}
use Rattle.ms_dag.specs.Places.{AreAmong}
use Rattle.ms_dag.specs.inner.Scope.{IsInScope}
use Rattle.ms_dag.specs.Share.{IsRootOf, AreRootsOf, children_of_roots}
use Rattle.ms_dag.specs.Unfolds.{Unfolds}

-- the child is the formula, where its variables have their numbers in the source
pub record IsShared (orders : List Order) (entries : List Entry) (f : CoreForm) (child : Child) : Type 0 where
  pub unfolds : Unfolds entries f child.map child.node
  pub rising : IsStrictlyIncreasing child.map
  pub ordered : (entry : Entry) × (slice_get entries child.node ≡ Some entry) × HaveOrders orders child.map entry.orders
  pub scoped : (scope : List ℕ) → IsInScope orders scope f → AreAmong scope child.map

abbrev pub AreShared : List Order → List Entry → CoreForms → List Child → Type 0
AreShared orders entries no_forms [] = Unit {0}
AreShared orders entries no_forms (child ∷ children) = ⊥
AreShared orders entries (more_forms f fs) [] = ⊥
AreShared orders entries (more_forms f fs) (child ∷ children) = IsShared orders entries f child × AreShared orders entries fs children

-- each node keeps its number
abbrev pub Keeps : List Entry → List Entry → Type 0
Keeps old new = (i : ℕ) (entry : Entry) → slice_get old i ≡ Some entry → slice_get new i ≡ Some entry

-- the graph grew by nodes each of which is used below these
pub record Grown (old new : List Entry) (tops : List Child) : Type 0 where
  pub kept : Keeps old new
  pub nodes : AreNodes new
  pub used : (i : ℕ) → length old ≤ i → i < length new → IsUsed new tops i

-- the formula stands in the graph, which grew by nodes below it
pub record IsSharedNow (orders : List Order) (old new : List Entry) (f : CoreForm) (child : Child) : Type 0 where
  pub grown : Grown old new (child ∷ [])
  pub shared : IsShared orders new f child

-- the same for each of these formulas
pub record AreSharedNow (orders : List Order) (old new : List Entry) (fs : CoreForms) (children : List Child) : Type 0 where
  pub grown : Grown old new children
  pub shared : AreShared orders new fs children

-- the child is the node with these variables, which has got a number
pub record IsMade (orders : List Order) (old new : List Entry) (node : DagNode) (names : List ℕ) (child : Child) : Type 0 where
  pub map : child.map ≡ names
  pub own : List Order
  pub ordered : HaveOrders orders names own
  pub numbers : Numbers old new (record { node = node; orders = own })
  pub number : slice_get new child.node ≡ Some (record { node = node; orders = own })

-- the node is above these, whose variables are its own and what it binds, if it binds one
pub record IsAbove (orders : List Order) (old new : List Entry) (bound : List ℕ) (parts : List Child) (node : DagNode) (child : Child) : Type 0 where
  pub rising : IsStrictlyIncreasing (child.map ++ bound)
  pub there : AreAmong (child.map ++ bound) (places_in_maps parts)
  pub back : AreAmong (places_in_maps parts) child.map
  pub children : AreTheSameIn (child.map ++ bound) parts (children_of node)
  pub made : IsMade orders old new node child.map child

-- a root that was shared, while the graph grows
pub record IsRootNow (calls : Calls) (orders : List Order) (old new : List Entry) (root : Root) (shared : SharedRoot) : Type 0 where
  pub grown : Grown old new (shared.child ∷ [])
  pub root_of : IsRootOf calls orders new root shared

-- the roots that were shared
pub record AreRootsNow (calls : Calls) (orders : List Order) (entries : List Entry) (roots : List Root) (shared : List SharedRoot) : Type 0 where
  pub grown : Grown [] entries (children_of_roots shared)
  pub roots_of : AreRootsOf calls orders entries roots shared
