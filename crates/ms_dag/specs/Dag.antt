-- The graph of the formulas of a source.
use Rattle.std.specs.Prelude.{◌≡◌, ℕ, ◌+◌, ◌<◌, ◌≤◌, ◌⊎◌, List, [], ◌∷◌, ◌++◌, length, map, slice_get, All, Contains, Option, Some, None}
use Rattle.std.specs.List.Sorted.{IsStrictlyIncreasing}
use Rattle.std.specs.Option.{option_map}
use Rattle.ms_logic.specs.declared.mode.Order.{Order}
use Rattle.ms_dag.specs.declared.node.Child.{Child}
use Rattle.ms_dag.specs.declared.node.DagNode.{DagNode}
use Rattle.ms_dag.specs.declared.node.DagNode.TheVariants.{True, False, Basic, Not, And, Or, Implies, Iff, Restrict, Import, Bind}
use Rattle.ms_dag.specs.declared.node.Entry.{Entry}
use Rattle.ms_diagram.specs.Numbering.{HasNoRepeats}
use Rattle.ms_logic.specs.Assignment.{Variable}
use Rattle.ms_logic_core.specs.Operands.{variables_of_basic}
use Rattle.ms_dag.specs.Places.{AreAt, AreBelow}
use Rattle.ms_dag.specs.Unfolds.{IsPartOf, names_of_basic}

-- the orders of the own variables of a node, by its number
abbrev pub own_orders : List Entry → ℕ → Option (List Order)
own_orders entries i = option_map (λ e. e.orders) (slice_get entries i)

-- the children of a quantifier: its restriction, if it has one, and its body
abbrev pub children_of_binder : Option Child → Child → List Child
children_of_binder None body = body ∷ []
children_of_binder (Some domain) body = domain ∷ body ∷ []

abbrev pub children_of : DagNode → List Child
children_of True = []
children_of False = []
children_of (Basic b) = []
children_of (Not c) = c ∷ []
children_of (And cs) = cs
children_of (Or cs) = cs
children_of (Implies c d) = c ∷ d ∷ []
children_of (Iff c d) = c ∷ d ∷ []
children_of (Restrict c) = c ∷ []
children_of (Import i xs) = []
children_of (Bind q o k d c) = children_of_binder d c

-- the orders of the variables that the children of a node have: its own, and behind them what it binds
abbrev pub orders_inside : DagNode → List Order → List Order
orders_inside (Bind q o k d c) orders = orders ++ o ∷ []
orders_inside node orders = orders

-- a child of node i: its number is smaller, its map rises and gives variables of its own orders
pub record IsChild (entries : List Entry) (i : ℕ) (orders : List Order) (child : Child) : Type 0 where
  pub part : IsPartOf i (length orders) child
  pub rising : IsStrictlyIncreasing child.map
  pub ordered : (entry : Entry) × (slice_get entries child.node ≡ Some entry) × AreAt orders child.map entry.orders

-- the variables of a relation have its orders, those of an import stand among the node's own, and a bound variable comes
-- behind them
abbrev pub HasOwnOrders : DagNode → List Order → Type 0
HasOwnOrders (Basic b) orders = All (λ (v : Variable). slice_get orders v.name ≡ Some v.order) (variables_of_basic b)
HasOwnOrders (Import i xs) orders = AreBelow (length orders) xs
HasOwnOrders (Bind q o k d c) orders = k ≡ length orders
HasOwnOrders node orders = Unit {0}

abbrev pub places_in_maps : List Child → List ℕ
places_in_maps [] = []
places_in_maps (c ∷ cs) = c.map ++ places_in_maps cs

-- the variables of which a node speaks
abbrev pub places_of : DagNode → List ℕ
places_of (Basic b) = names_of_basic b
places_of (Import i xs) = xs
places_of node = places_in_maps (children_of node)

-- node i: its children are below it, and each of its own variables stands in it
pub record IsNode (entries : List Entry) (i : ℕ) (entry : Entry) : Type 0 where
  pub children : All (IsChild entries i (orders_inside entry.node entry.orders)) (children_of entry.node)
  pub own : HasOwnOrders entry.node entry.orders
  pub free : (j : ℕ) → j < length entry.orders → Contains (places_of entry.node) j

-- the node of one of these children
abbrev pub IsNodeOf : List Child → ℕ → Type 0
IsNodeOf children i = Contains (map (λ c. c.node) children) i

-- node i is that of a root, or a child of another node
abbrev pub IsUsed : List Entry → List Child → ℕ → Type 0
IsUsed entries roots i =
    IsNodeOf roots i ⊎ ((k : ℕ) × (entry : Entry) × (slice_get entries k ≡ Some entry) × IsNodeOf (children_of entry.node) i)

-- the nodes of a graph: each is one above its children, and no two are equal
pub record AreNodes (entries : List Entry) : Type 0 where
  pub nodes : (i : ℕ) (entry : Entry) → slice_get entries i ≡ Some entry → IsNode entries i entry
  pub distinct : HasNoRepeats entries

-- where two nodes are the same import, their variables for those of its file have the same orders
abbrev pub ImportsAgree : List Entry → Type 0
ImportsAgree entries =
    (i j : ℕ) (one two : Entry) (import : ℕ) (xs ys : List ℕ) → slice_get entries i ≡ Some one → slice_get entries j ≡ Some two
    → one.node ≡ Import import xs → two.node ≡ Import import ys → map (slice_get one.orders) xs ≡ map (slice_get two.orders) ys

-- a graph with these nodes and roots, with nothing that stands in no root
pub record IsDag (entries : List Entry) (roots : List Child) : Type 0 where
  pub nodes : AreNodes entries
  pub imports : ImportsAgree entries
  pub within : All (λ c. c.node < length entries) roots
  pub used : (i : ℕ) → i < length entries → IsUsed entries roots i
  pub small : length entries + length roots ≤ 4294967295
