-- Laws of the nodes of the graph of a source.
use Rattle.std.specs.Prelude.{◌≡◌, ◌↔◌, ℕ, suc, ◌<◌, List, length, slice_get, Contains, Some}
use Rattle.ms_logic.specs.Truth.{Import}
use Rattle.ms_logic_core.specs.declared.core_formula.Lowered.{Lowered}
use Rattle.ms_logic_core.specs.declared.core_formula.Root.{Root}
use Rattle.ms_logic_core.specs.Calls.{Calls}
use Rattle.ms_logic_core.specs.CoreForm.{CoreForm, CoreForms, core_forms}
use Rattle.ms_logic_measures.specs.Steps.{Step, free_variables, steps_of}
use Rattle.ms_dag.specs.declared.dag.Dag.{Dag}
use Rattle.ms_dag.specs.declared.node.Child.{Child}
use Rattle.ms_dag.specs.declared.node.Entry.{Entry}
use Rattle.ms_dag.specs.Dag.{AreNodes}
use Rattle.ms_dag.specs.Lowered.{IsLowered}
use Rattle.ms_dag.specs.Share.{IsDagOf}
use Rattle.ms_dag.specs.Unfolds.{UnfoldEach}
use Rattle.ms_dag_steps.specs.NodeSteps.{HasItsSteps, Prefix}
use Rattle.ms_dag_steps.specs.Occurrences.{Occurs, OccursInRoot, variables_named, whole_formula}
use Rattle.ms_dag_steps.specs.OwnSteps.{own_steps}
use Rattle.ms_dag_steps.specs.Subformulas.{IsSubformula}

-- each node of the graph of a source occurs in the formula of one of its roots
abbrev pub NodesOccurInRoots : Type 0
NodesOccurInRoots =
    (calls : Calls) (lowered : Lowered) (dag : Dag) (place : ℕ) → IsDagOf calls lowered dag → place < length dag.entries → OccursInRoot calls lowered.roots dag.entries place

-- where a node occurs in the formula of a root, the free variables of its formula are the node's own, one after the other
abbrev pub OwnVariablesAreFree : Type 0
OwnVariablesAreFree =
    (imports : List Import) (calls : Calls) (lowered : Lowered) (dag : Dag) (number : ℕ) (root : Root) (f : CoreForm) (names : List ℕ) (place : ℕ) (entry : Entry)
    → IsLowered imports calls lowered → IsDagOf calls lowered dag → slice_get lowered.roots number ≡ Some root → slice_get dag.entries place ≡ Some entry
    → Occurs (whole_formula calls root) dag.entries f names place → free_variables imports f ≡ variables_named names entry.orders

-- where children are operands, each prefix of theirs is that of the operands, of which there is a step with the next one
abbrev pub PrefixesAreOperands : Type 0
PrefixesAreOperands =
    (connect : CoreForms → CoreForm) (entries : List Entry) (operands : List CoreForm) (names : List ℕ) (i : ℕ) (children : List Child) (k : ℕ)
    → UnfoldEach entries (core_forms operands) names i children → suc k < length children → Prefix connect entries operands names i children k

-- the steps of a formula are the own steps of its subformulas
abbrev pub StepsAreOwnSteps : Type 0
StepsAreOwnSteps = (whole : CoreForm) (step : Step) → Contains (steps_of whole) step ↔ ((f : CoreForm) × IsSubformula f whole × Contains (own_steps f) step)

-- where a node occurs as a formula, its steps are own steps of that formula
abbrev pub NodesHaveTheirSteps : Type 0
NodesHaveTheirSteps =
    (whole : CoreForm) (entries : List Entry) (f : CoreForm) (names : List ℕ) (place : ℕ) (entry : Entry) → AreNodes entries → slice_get entries place ≡ Some entry
    → Occurs whole entries f names place → HasItsSteps whole f entries names place entry.node
