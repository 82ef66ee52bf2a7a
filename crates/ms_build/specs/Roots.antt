-- The automata of roots.
use Rattle.std.specs.Prelude.{◌≡◌, ℕ, List, map, slice_get, Contains, Some}
use Rattle.std.specs.List.Sorted.{IsStrictlyIncreasing}
use Rattle.ms_logic.specs.declared.mode.Order.{Order}
use Rattle.ms_logic_words.specs.declared.sign.Sign.{Sign}
use Rattle.ms_logic.specs.Assignment.{Variable}
use Rattle.ms_logic_words.specs.Content.{Content}
use Rattle.ms_logic_core.specs.Orders.{order_at}
use Rattle.ms_dag.specs.declared.node.Child.{Child}
use Rattle.ms_dag.specs.declared.node.Entry.{Entry}
use Rattle.ms_dag.specs.declared.dag.Dag.{Dag}
use Rattle.ms_dag.specs.declared.dag.SharedRoot.{SharedRoot}
use Rattle.ms_dag.specs.Laws.{HaveOrders}
use Rattle.ms_build.specs.declared.plan.Plan.{Plan}
use Rattle.ms_build.specs.Built.{IsLeastOf, IsOver, child_meaning, entries_of, imports_for}

-- variables by their numbers, each with its order
abbrev pub named : List Order → List ℕ → List Variable
named orders names = map (λ x. record { name = x; order = order_at orders x }) names

-- the map of a root's formula gives variables of its own orders, where the globals of the source have these
abbrev pub IsReadInSource : List Entry → List Order → Child → Type 0
IsReadInSource entries orders child = (entry : Entry) × (slice_get entries child.node ≡ Some entry) × HaveOrders orders child.map entry.orders

-- the variables of a root rise, and are all that its formula has at least
pub record AreRootVariables (child : Child) (variables : List ℕ) : Type 0 where
  pub rising : IsStrictlyIncreasing variables
  pub among : (j : ℕ) → Contains child.map j → Contains variables j

-- an automaton of a root's formula over the root's variables
abbrev pub IsOverRoot : Plan → Child → List ℕ → Content Sign → Type 0
IsOverRoot plan child variables content =
    IsOver plan.mode (named plan.dag.now.orders variables) (child_meaning (imports_for plan) (entries_of plan) child) content

-- each root is read at variables of the source, those of its list, in rising order
abbrev pub AreRootsRead : Dag → Type 0
AreRootsRead dag =
    (r : ℕ) (root : SharedRoot) → slice_get dag.roots r ≡ Some root
    → IsReadInSource dag.entries dag.orders root.child × AreRootVariables root.child root.variables × IsStrictlyIncreasing root.child.map

-- the automaton of a root by its number
abbrev pub IsRootAt : Plan → ℕ → Content Sign → Type 0
IsRootAt plan r content =
    (root : SharedRoot) × (slice_get plan.dag.now.roots r ≡ Some root)
    × IsLeastOf plan.mode (named plan.dag.now.orders root.variables) (child_meaning (imports_for plan) (entries_of plan) root.child) content
