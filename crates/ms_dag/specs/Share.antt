-- What sharing promises.
use Rattle.std.specs.Prelude.{◌≡◌, ℕ, List, map, slice_get, Some}
use Rattle.std.specs.List.{AllZip}
use Rattle.std.specs.List.Sorted.{IsStrictlyIncreasing}
use Rattle.ms_logic_core.specs.declared.core_formula.Lowered.{Lowered}
use Rattle.ms_logic_core.specs.declared.core_formula.Root.{Root}
use Rattle.ms_logic.specs.declared.mode.Order.{Order}
use Rattle.ms_logic_core.specs.CoreForm.{core_form_of}
use Rattle.ms_logic_core.specs.Calls.{Calls, filled}
use Rattle.ms_dag.specs.declared.node.Child.{Child}
use Rattle.ms_dag.specs.declared.dag.Dag.{Dag}
use Rattle.ms_dag.specs.declared.node.Entry.{Entry}
use Rattle.ms_dag.specs.declared.dag.SharedRoot.{SharedRoot}
use Rattle.ms_dag.specs.Dag.{IsDag}
use Rattle.ms_dag.specs.Laws.{HaveOrders}
use Rattle.ms_dag.specs.Places.{AreAmong}
use Rattle.ms_dag.specs.Unfolds.{Unfolds}

-- a root of the source in the graph: its formula with what its imports stand for in their places, whose variables have their numbers in the
-- source, and its list of variables
pub record IsRootOf (calls : Calls) (orders : List Order) (entries : List Entry) (root : Root) (shared : SharedRoot) : Type 0 where
  pub variables : shared.variables ≡ root.variables
  pub unfolds : Unfolds entries (filled calls (core_form_of root.core)) shared.child.map shared.child.node
  pub rising : IsStrictlyIncreasing shared.child.map
  pub among : AreAmong root.variables shared.child.map
  pub ordered : (entry : Entry) × (slice_get entries shared.child.node ≡ Some entry) × HaveOrders orders shared.child.map entry.orders

abbrev pub children_of_roots : List SharedRoot → List Child
children_of_roots roots = map (λ root. root.child) roots

abbrev pub variables_of_roots : List SharedRoot → List (List ℕ)
variables_of_roots roots = map (λ root. root.variables) roots

abbrev pub AreRootsOf : Calls → List Order → List Entry → List Root → List SharedRoot → Type 0
AreRootsOf calls orders entries roots shared = AllZip (IsRootOf calls orders entries) roots shared

-- the graph of a source
pub record IsDagOf (calls : Calls) (lowered : Lowered) (dag : Dag) : Type 0 where
  pub graph : IsDag dag.entries (children_of_roots dag.roots)
  pub roots : AreRootsOf calls lowered.orders dag.entries lowered.roots dag.roots
  pub orders_are : dag.orders ≡ lowered.orders
