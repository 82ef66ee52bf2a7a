-- The steps of a node where its own variables have names, and where they stand.
use Rattle.std.specs.Prelude.{◌≡◌, ℕ, suc, ◌<◌, List, [], ◌∷◌, ◌++◌, length, take, slice_get, slice_index, Contains, Option, Some, None}
use Rattle.std.specs.List.{AllZip}
use Rattle.ms_logic_core.specs.CoreForm.{CoreForm, truth, falsity, negation, conjunction, disjunction, restrict, CoreForms, no_forms, CoreRestriction, unrestricted, restricted, core_forms}
use Rattle.ms_logic_core.specs.Operands.{variable}
use Rattle.ms_logic_measures.specs.Steps.{constant, of_one, relation, connective, binding, import_at, connected, steps_of_list}
use Rattle.ms_dag.specs.declared.node.Child.{Child}
use Rattle.ms_dag.specs.declared.node.DagNode.{DagNode}
use Rattle.ms_dag.specs.declared.node.DagNode.TheVariants.{True, False, Basic, Not, And, Or, Implies, Iff, Restrict, Import, Bind}
use Rattle.ms_dag.specs.declared.node.Entry.{Entry}
use Rattle.ms_dag.specs.Places.{AreBelow, picked}
use Rattle.ms_dag.specs.Unfolds.{ReadAs, renamed, Unfolds, UnfoldEach}
use Rattle.ms_dag_steps.specs.Occurrences.{Occurs}
use Rattle.ms_dag_steps.specs.OwnSteps.{own_steps}

-- the children of node i, whose variables have these names, are these operands. Step k of their list is that of the first k + 1 with
-- the next one: the first k + 1 children are those operands, and the next child is the next operand.
pub record Prefix (connect : CoreForms → CoreForm) (entries : List Entry) (operands : List CoreForm) (names : List ℕ) (i : ℕ) (children : List Child) (k : ℕ) : Type 0 where
  pub next : CoreForm
  pub child : Child
  pub is_next : slice_get operands (suc k) ≡ Some next
  pub is_child : slice_get children (suc k) ≡ Some child
  pub before : UnfoldEach entries (core_forms (take (suc k) operands)) names i (take (suc k) children)
  pub reads : ReadAs (λ given j. Unfolds entries next given j) names i child
  pub step : slice_get (steps_of_list connect [] (core_forms operands)) k ≡ Some (connective (connected connect (take (suc k) operands)) next)

-- a child of a node whose variables have these names occurs as a formula
abbrev pub ChildOccurs : CoreForm → List Entry → List ℕ → CoreForm → Child → Type 0
ChildOccurs whole entries names f child = Occurs whole entries f (picked names child.map) child.node

abbrev pub RestrictionOccurs : CoreForm → List Entry → List ℕ → CoreRestriction → Option Child → Type 0
RestrictionOccurs whole entries names unrestricted None = Unit {0}
RestrictionOccurs whole entries names unrestricted (Some child) = ⊥
RestrictionOccurs whole entries names (restricted d) None = ⊥
RestrictionOccurs whole entries names (restricted d) (Some child) = ChildOccurs whole entries names d child

-- the children of node i, which occurs as a formula, occur as operands, whose connective has its steps, own steps of that formula: of no
-- operands a constant, and else one for each operand after the first, of the connective of those before it with it
pub record HasStepsOfList (whole f : CoreForm) (connect : CoreForms → CoreForm) (entries : List Entry) (names : List ℕ) (i : ℕ) (children : List Child) : Type 0 where
  pub operands : List CoreForm
  pub occur : AllZip (ChildOccurs whole entries names) operands children
  pub none : children ≡ [] → Contains (own_steps f) (constant (connect no_forms))
  pub each : (k : ℕ) → suc k < length children
      → (prefix : Prefix connect entries operands names i children k) × Contains (own_steps f) (connective (connected connect (take (suc k) operands)) prefix.next)

-- what is done for node i, which occurs as a formula and whose variables have these names, once its children are done, are own steps of
-- that formula, and in the formulas of these steps its children occur
abbrev pub HasItsSteps : CoreForm → CoreForm → List Entry → List ℕ → ℕ → DagNode → Type 0
HasItsSteps whole f entries names i True = Contains (own_steps f) (constant truth)
HasItsSteps whole f entries names i False = Contains (own_steps f) (constant falsity)
HasItsSteps whole f entries names i (Basic b) = Contains (own_steps f) (relation (renamed (slice_index names) b))
HasItsSteps whole f entries names i (Not c) = (g : CoreForm) × ChildOccurs whole entries names g c × Contains (own_steps f) (of_one (negation g) g)
HasItsSteps whole f entries names i (And cs) = HasStepsOfList whole f conjunction entries names i cs
HasItsSteps whole f entries names i (Or cs) = HasStepsOfList whole f disjunction entries names i cs
HasItsSteps whole f entries names i (Implies c d) =
    (g : CoreForm) × (h : CoreForm) × ChildOccurs whole entries names g c × ChildOccurs whole entries names h d × Contains (own_steps f) (connective g h)
HasItsSteps whole f entries names i (Iff c d) =
    (g : CoreForm) × (h : CoreForm) × ChildOccurs whole entries names g c × ChildOccurs whole entries names h d × Contains (own_steps f) (connective g h)
HasItsSteps whole f entries names i (Restrict c) = (g : CoreForm) × ChildOccurs whole entries names g c × Contains (own_steps f) (of_one (restrict g) g)
HasItsSteps whole f entries names i (Import n xs) = Contains (own_steps f) (import_at n (picked names xs))
HasItsSteps whole f entries names i (Bind q o k d c) =
    (x : ℕ) × (r : CoreRestriction) × (g : CoreForm) × AreBelow x names × RestrictionOccurs whole entries (names ++ x ∷ []) r d
    × ChildOccurs whole entries (names ++ x ∷ []) g c × Contains (own_steps f) (binding (variable x o) r g)
