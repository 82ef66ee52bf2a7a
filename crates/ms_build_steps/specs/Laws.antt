-- Laws of the automata of nodes and of the steps of their source.
use Rattle.std.specs.Prelude.{◌≡◌, ◌⊎◌, ℕ, ◌<◌, List, [], ◌∷◌, ◌++◌, length, slice_get, Contains, All as Each, Option, Some}
use Rattle.std.specs.List.Sorted.{IsStrictlyIncreasing}
use Rattle.ms_build.specs.Built.{AreImportsOf, IsImportOf, IsLeastOf, IsWithin, imports_for, node_meaning}
use Rattle.ms_build.specs.Roots.{named}
use Rattle.ms_build.specs.Short.{ChildLacks, FormLacks, ManyLacks, NodeLacks, PairLacks, QuantifierLacks, RootLacks}
use Rattle.ms_build.specs.declared.plan.Many.{Many}
use Rattle.ms_build.specs.declared.plan.Many.TheVariants.{All, Any}
use Rattle.ms_build.specs.declared.plan.Plan.{Plan}
use Rattle.ms_build_parts.specs.SaySame.{SaySame}
use Rattle.ms_dag.specs.Dag.{IsChild}
use Rattle.ms_dag.specs.Laws.{HaveTheirOrders}
use Rattle.ms_dag.specs.Lowered.{IsLowered}
use Rattle.ms_dag.specs.Places.{AreBelow}
use Rattle.ms_dag.specs.Share.{IsDagOf}
use Rattle.ms_dag.specs.Unfolds.{Unfolds, names_of_basic}
use Rattle.ms_dag.specs.declared.dag.Dag.{Dag}
use Rattle.ms_dag.specs.declared.node.Child.{Child}
use Rattle.ms_dag.specs.declared.node.DagNode.{DagNode}
use Rattle.ms_dag.specs.declared.node.DagNode.TheVariants as nodes
use Rattle.ms_dag.specs.declared.node.Entry.{Entry}
use Rattle.ms_dag_steps.specs.NodeSteps.{ChildOccurs, HasItsSteps, HasStepsOfList}
use Rattle.ms_dag_steps.specs.Occurrences.{Occurs, OccursInRoot, variables_named, whole_formula}
use Rattle.ms_dag_steps.specs.OwnSteps.{own_steps}
use Rattle.ms_logic.specs.Truth.{Answer, Import}
use Rattle.ms_logic.specs.declared.mode.Mode.{Mode}
use Rattle.ms_logic.specs.declared.mode.Order.{Order}
use Rattle.ms_logic.specs.declared.mode.Quant.{Quant}
use Rattle.ms_logic_core.specs.Calls.{Calls}
use Rattle.ms_logic_core.specs.CoreForm.{CoreForm, CoreForms, CoreRestriction, conjunction, disjunction, quantified}
use Rattle.ms_logic_core.specs.Operands.{variable}
use Rattle.ms_logic_core.specs.Roots.{Root as Whole}
use Rattle.ms_logic_core.specs.declared.core_formula.Basic.{Basic}
use Rattle.ms_logic_core.specs.declared.core_formula.Lowered.{Lowered}
use Rattle.ms_logic_core.specs.declared.core_formula.Root.{Root}
use Rattle.ms_logic_measures.specs.Budgets.{IsMeasureOf, IsWideningMeasure, budget, variables_inside}
use Rattle.ms_logic_measures.specs.FullContent.{IsFullContent}
use Rattle.ms_logic_measures.specs.Steps.{binding, connective, steps_of, root as step_of_root}
use Rattle.ms_logic_words.specs.Content.{Content, variables_by_place}
use Rattle.ms_logic_words.specs.declared.sign.Sign.{Sign}
use Rattle.ms_product.specs.declared.op.Op.{Op}
use Rattle.ms_build_steps.specs.Kinds.{IsBelowKind, IsBelowOneOf, IsBelowOwnStep}

-- the automaton of a node, over the node's own variables, says what the full content of its formula says, where these have rising names
abbrev pub NodesSayWhatFormulasSay : Type 0
NodesSayWhatFormulasSay =
    (imports : List Import) (mode : Mode) (entries : List Entry) (orders : List Order) (f : CoreForm) (names : List ℕ) (i : ℕ) (own : List Order) (least content : Content Sign)
    → HaveTheirOrders imports orders f → Unfolds entries f names i → IsStrictlyIncreasing names → length names ≡ length own
    → IsLeastOf mode (variables_by_place own) (node_meaning imports entries i) least → IsFullContent imports mode (variables_named names own) f content
    → SaySame least content

-- what is built is the graph of a source, over automata of its imports
pub record IsPlanned (imports : List Import) (calls : Calls) (lowered : Lowered) (plan : Plan) : Type 0 where
  pub lowered_is : IsLowered imports calls lowered
  pub graph : IsDagOf calls lowered plan.dag.now
  pub imports_are : imports_for plan ≡ imports

-- where two children occur in the formula of a root, their connective lacks nodes only under a limit below each budget of its step
abbrev pub ConnectivesAreWithinBudget : Type 0
ConnectivesAreWithinBudget =
    (imports : List Import) (calls : Calls) (lowered : Lowered) (plan : Plan) (number : ℕ) (root : Root) (names : List ℕ) (op : Op) (left right : Child) (f g : CoreForm) (i : ℕ)
    (outer : List Order)
    → IsPlanned imports calls lowered plan → slice_get lowered.roots number ≡ Some root
    → ChildOccurs (whole_formula calls root) plan.dag.now.entries names f left → ChildOccurs (whole_formula calls root) plan.dag.now.entries names g right
    → IsChild plan.dag.now.entries i outer left → IsChild plan.dag.now.entries i outer right → PairLacks plan op left right
    → (files : List (Content Answer)) (m r : ℕ) → IsMeasureOf imports plan.mode files (connective f g) m r → plan.limit < budget m r

-- the connective of the operands of a list
abbrev pub connect_of : Many → CoreForms → CoreForm
connect_of All = conjunction
connect_of Any = disjunction

-- where a list occurs as a formula, and its children as operands in the formula of a root, the connective of the first ones with the next
-- one lacks nodes only under a limit below each budget of an own step of the formula as which the list occurs
abbrev pub ListsAreWithinBudget : Type 0
ListsAreWithinBudget =
    (imports : List Import) (calls : Calls) (lowered : Lowered) (plan : Plan) (number : ℕ) (root : Root) (f : CoreForm) (names : List ℕ) (many : Many) (children : List Child) (i : ℕ) (outer : List Order)
    → IsPlanned imports calls lowered plan → slice_get lowered.roots number ≡ Some root → IsStrictlyIncreasing names → length names ≡ length outer
    → HasStepsOfList (whole_formula calls root) f (connect_of many) plan.dag.now.entries names i children → Each (IsChild plan.dag.now.entries i outer) children
    → ManyLacks plan many children → IsBelowOwnStep imports plan.mode f plan.limit

-- where a relation occurs as a formula, its machine lacks nodes only under a limit below each budget of the formula's own step
abbrev pub RelationsAreBelowTheirSteps : Type 0
RelationsAreBelowTheirSteps =
    (imports : List Import) (whole f : CoreForm) (plan : Plan) (orders : List Order) (names : List ℕ) (i : ℕ) (b : Basic)
    → IsStrictlyIncreasing names → AreBelow (length names) (names_of_basic b) → HasItsSteps whole f plan.dag.now.entries names i (nodes.Basic b)
    → FormLacks plan orders (nodes.Basic b) → IsBelowOwnStep imports plan.mode f plan.limit

-- each formula has an own step, and each budget is more than 16
abbrev pub SmallLimitsAreBelowSteps : Type 0
SmallLimitsAreBelowSteps = (imports : List Import) (mode : Mode) (f : CoreForm) (limit : ℕ) → limit < 16 → IsBelowOwnStep imports mode f limit

-- no import, and no quantifier
abbrev pub IsPlainForm : DagNode → Type 0
IsPlainForm (nodes.Import n xs) = ⊥
IsPlainForm (nodes.Bind q o k d c) = ⊥
IsPlainForm node = Unit {0}

-- where a node that is no import and no quantifier occurs in the formula of a root, it lacks nodes only under a limit below each budget of
-- an own step of the formula as which it occurs
abbrev pub PlainNodesAreBelowTheirSteps : Type 0
PlainNodesAreBelowTheirSteps =
    (imports : List Import) (calls : Calls) (lowered : Lowered) (plan : Plan) (number : ℕ) (root : Root) (f : CoreForm) (names : List ℕ) (i : ℕ) (entry : Entry)
    → IsPlanned imports calls lowered plan → slice_get lowered.roots number ≡ Some root → slice_get plan.dag.now.entries i ≡ Some entry
    → Occurs (whole_formula calls root) plan.dag.now.entries f names i → IsPlainForm entry.node → NodeLacks plan i
    → IsBelowOwnStep imports plan.mode f plan.limit

-- where an import occurs in the formula of a root, over lent automata within the limit, it lacks nodes only under a limit below each
-- budget of an own step of the formula as which it occurs
abbrev pub ImportsAreBelowTheirSteps : Type 0
ImportsAreBelowTheirSteps =
    (imports : List Import) (calls : Calls) (lowered : Lowered) (plan : Plan) (number : ℕ) (root : Root) (f : CoreForm) (names : List ℕ) (i : ℕ)
    (entry : Entry) (import : ℕ) (xs : List ℕ)
    → IsPlanned imports calls lowered plan → slice_get lowered.roots number ≡ Some root → slice_get plan.dag.now.entries i ≡ Some entry
    → entry.node ≡ nodes.Import import xs → IsImportOf plan.imports.now plan.mode entry.orders import xs → Each (IsWithin plan.limit) plan.imports.now
    → Occurs (whole_formula calls root) plan.dag.now.entries f names i → NodeLacks plan i → IsBelowOwnStep imports plan.mode f plan.limit

-- where a child occurs in the formula of a root, it lacks nodes, on the way to the variables at which it is read, only under a limit below
-- each budget of the widening of its formula to these variables
abbrev pub WideningsAreWithinBudget : Type 0
WideningsAreWithinBudget =
    (imports : List Import) (calls : Calls) (lowered : Lowered) (plan : Plan) (number : ℕ) (root : Root) (names : List ℕ) (child : Child) (f : CoreForm) (i : ℕ) (outer : List Order)
    → IsPlanned imports calls lowered plan → slice_get lowered.roots number ≡ Some root → IsStrictlyIncreasing names → length names ≡ length outer
    → ChildOccurs (whole_formula calls root) plan.dag.now.entries names f child → IsChild plan.dag.now.entries i outer child
    → ChildLacks plan child (variables_by_place outer)
    → (m r : ℕ) → IsWideningMeasure imports plan.mode f (variables_named names outer) m r → plan.limit < budget m r

-- where a quantifier occurs in the formula of a root, the own step of the formula as which it occurs binds the variable in a body that
-- lacks nodes, on the way to the quantifier's own variables and the bound one, only under a limit below each budget of the body's widening
-- to these
abbrev pub BodiesWidenWithinBudget : Type 0
BodiesWidenWithinBudget =
    (imports : List Import) (calls : Calls) (lowered : Lowered) (plan : Plan) (number : ℕ) (root : Root) (f : CoreForm) (names : List ℕ) (i : ℕ) (entry : Entry)
    (q : Quant) (o : Order) (k : ℕ) (d : Option Child) (c : Child)
    → IsPlanned imports calls lowered plan → slice_get lowered.roots number ≡ Some root → slice_get plan.dag.now.entries i ≡ Some entry
    → entry.node ≡ nodes.Bind q o k d c → Occurs (whole_formula calls root) plan.dag.now.entries f names i → ChildLacks plan c (variables_by_place (entry.orders ++ o ∷ []))
    → (x : ℕ) × (r : CoreRestriction) × (body : CoreForm) × Contains (own_steps f) (binding (variable x o) r body)
    × ((m n : ℕ) → IsWideningMeasure imports plan.mode body (variables_named (names ++ x ∷ []) (entry.orders ++ o ∷ [])) m n → plan.limit < budget m n)

-- where a quantifier occurs in the formula of a root, the variables inside it are its own and behind them the bound one
abbrev pub VariablesInsideAreOwnAndBound : Type 0
VariablesInsideAreOwnAndBound =
    (imports : List Import) (mode : Mode) (calls : Calls) (lowered : Lowered) (dag : Dag) (number : ℕ) (root : Root) (q : Quant) (o : Order) (x : ℕ) (r : CoreRestriction)
    (body : CoreForm) (names : List ℕ) (i : ℕ) (entry : Entry)
    → IsLowered imports calls lowered → IsDagOf calls lowered dag → slice_get lowered.roots number ≡ Some root → slice_get dag.entries i ≡ Some entry
    → Occurs (whole_formula calls root) dag.entries (quantified q o x r body) names i
    → variables_inside imports mode (variable x o) r body ≡ variables_named (names ++ x ∷ []) (entry.orders ++ o ∷ [])

-- where a quantifier occurs in the formula of a root, it lacks nodes only under a limit below each budget of an own step of the formula as
-- which it occurs, of one of the step's kinds
abbrev pub QuantifiersAreBelowTheirSteps : Type 0
QuantifiersAreBelowTheirSteps =
    (imports : List Import) (calls : Calls) (lowered : Lowered) (plan : Plan) (number : ℕ) (root : Root) (f : CoreForm) (names : List ℕ) (i : ℕ) (entry : Entry)
    (q : Quant) (o : Order) (k : ℕ) (d : Option Child) (c : Child)
    → IsPlanned imports calls lowered plan → slice_get lowered.roots number ≡ Some root → slice_get plan.dag.now.entries i ≡ Some entry
    → entry.node ≡ nodes.Bind q o k d c → Occurs (whole_formula calls root) plan.dag.now.entries f names i
    → QuantifierLacks plan entry.orders (record { name = k; order = o }) d c → IsBelowOwnStep imports plan.mode f plan.limit

-- where a node occurs in the formula of a root, over lent automata of its imports that are within the limit, it lacks nodes only under a
-- limit below each budget of an own step of the formula as which it occurs, of one of the step's kinds
abbrev pub NodesAreBelowTheirSteps : Type 0
NodesAreBelowTheirSteps =
    (imports : List Import) (calls : Calls) (lowered : Lowered) (plan : Plan) (number : ℕ) (root : Root) (f : CoreForm) (names : List ℕ) (i : ℕ)
    → IsPlanned imports calls lowered plan → slice_get lowered.roots number ≡ Some root
    → AreImportsOf plan.imports.now plan.mode plan.dag.now.entries → Each (IsWithin plan.limit) plan.imports.now
    → Occurs (whole_formula calls root) plan.dag.now.entries f names i → NodeLacks plan i → IsBelowOwnStep imports plan.mode f plan.limit

-- a root of the source, over its variables with their orders, with what its imports stand for in their places
abbrev pub whole_root : Calls → List Order → Root → Whole
whole_root calls orders root = record { variables = named orders root.variables; formula = whole_formula calls root }

-- a root lacks nodes only under a limit below each budget of its step, which is the widening of its formula to its variables
abbrev pub RootsAreBelowTheirSteps : Type 0
RootsAreBelowTheirSteps =
    (imports : List Import) (calls : Calls) (lowered : Lowered) (plan : Plan) (number : ℕ) (root : Root)
    → IsPlanned imports calls lowered plan → slice_get lowered.roots number ≡ Some root → RootLacks plan number
    → IsBelowKind imports plan.mode (step_of_root (whole_root calls lowered.orders root)) plan.limit

-- a node occurs in the formula of a root, and a limit is below each budget of an own step of the formula as which it occurs, of one of the
-- step's kinds
pub record IsBelowNode (imports : List Import) (calls : Calls) (mode : Mode) (lowered : Lowered) (entries : List Entry) (i limit : ℕ) : Type 0 where
  pub at : OccursInRoot calls lowered.roots entries i
  pub below : IsBelowOwnStep imports mode at.formula limit

-- there is a root with this number, and a limit is below each budget of its step, of one of the step's kinds
pub record IsBelowRoot (imports : List Import) (calls : Calls) (mode : Mode) (lowered : Lowered) (number limit : ℕ) : Type 0 where
  pub root : Root
  pub is_root : slice_get lowered.roots number ≡ Some root
  pub below : IsBelowKind imports mode (step_of_root (whole_root calls lowered.orders root)) limit

-- so whatever lacks nodes, over lent automata of the imports that are within the limit, lacks them only under a limit below each budget of
-- a step of its own, of one of the step's kinds
abbrev pub LackingIsBelowItsSteps : Type 0
LackingIsBelowItsSteps =
    (imports : List Import) (calls : Calls) (lowered : Lowered) (plan : Plan) (i : ℕ)
    → IsPlanned imports calls lowered plan → AreImportsOf plan.imports.now plan.mode plan.dag.now.entries → Each (IsWithin plan.limit) plan.imports.now
    → (NodeLacks plan i → IsBelowNode imports calls plan.mode lowered plan.dag.now.entries i plan.limit)
    × (RootLacks plan i → IsBelowRoot imports calls plan.mode lowered i plan.limit)

-- a limit is below each budget of one of the steps of the roots of a source, of one of the step's kinds
pub record IsBelowRoots (imports : List Import) (calls : Calls) (mode : Mode) (lowered : Lowered) (limit : ℕ) : Type 0 where
  pub number : ℕ
  pub root : Root
  pub is_root : slice_get lowered.roots number ≡ Some root
  pub below : IsBelowOneOf imports mode (step_of_root (whole_root calls lowered.orders root) ∷ steps_of (whole_formula calls root)) limit

-- the steps of nodes, where these occur, and those of roots are such steps
abbrev pub BelowItsStepsIsBelowRoots : Type 0
BelowItsStepsIsBelowRoots =
    (imports : List Import) (calls : Calls) (mode : Mode) (lowered : Lowered) (entries : List Entry) (i limit : ℕ)
    → IsBelowNode imports calls mode lowered entries i limit ⊎ IsBelowRoot imports calls mode lowered i limit → IsBelowRoots imports calls mode lowered limit

-- so whatever lacks nodes, over lent automata of the imports that are within the limit, lacks them only under a limit below each budget of
-- one of the steps of the roots, of one of the step's kinds
abbrev pub LackingIsBelowRoots : Type 0
LackingIsBelowRoots =
    (imports : List Import) (calls : Calls) (lowered : Lowered) (plan : Plan) (step : ℕ)
    → IsPlanned imports calls lowered plan → AreImportsOf plan.imports.now plan.mode plan.dag.now.entries → Each (IsWithin plan.limit) plan.imports.now
    → NodeLacks plan step ⊎ RootLacks plan step → IsBelowRoots imports calls plan.mode lowered plan.limit
