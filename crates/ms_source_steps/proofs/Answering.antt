-- What is below each budget where imports answer as automata is so where they answer as the source's imports do.
use Rattle.std.proofs.Common.{◌≡◌, ℕ, ⊎_elim, List, ◌∷◌, Contains, Some, length, slice_get, sym, ap, subst, ◌∙◌}
use Rattle.std.specs.List.Sorted.{IsStrictlyIncreasing}
use Rattle.ms_build.specs.Built.{imports_of}
use Rattle.ms_build.specs.Roots.{named}
use Rattle.ms_build_source.specs.Graph.{IsGraphOf, calls_in}
use Rattle.ms_build_source.specs.Imported.{AreAnswersOf, AreLentFor}
use Rattle.ms_build_source.specs.inner.Asked.{AnswerAlike}
use Rattle.ms_build_source.proofs.ImportAnswers.{answers_alike, given_by, variables_alike}
use Rattle.ms_build_steps.proofs.Ordered.{each_at}
use Rattle.ms_build_steps.specs.Kinds.{IsBelowKind}
use Rattle.ms_build_steps.specs.Laws.{IsBelowNode, IsBelowRoot, whole_root}
use Rattle.ms_dag.specs.declared.dag.Dag.{Dag}
use Rattle.ms_dag.specs.declared.node.Entry.{Entry}
use Rattle.ms_dag.specs.Lowered.{IsLowered, IsLoweredRoot}
use Rattle.ms_dag_steps.specs.Occurrences.{whole_formula}
use Rattle.ms_dag_steps.proofs.SubformulaSteps.{own_step_of_subformula}
use Rattle.ms_diagram.proofs.ListLemmas.{Contains-cases, Contains-first, Contains-rest}
use Rattle.ms_logic.specs.Truth.{Import}
use Rattle.ms_logic.specs.View.{Answers, problem_of}
use Rattle.ms_logic.specs.declared.checked.Checked.{Checked}
use Rattle.ms_logic.specs.declared.mode.Mode.{Mode}
use Rattle.ms_logic_core.specs.Calls.{Calls}
use Rattle.ms_logic_core.specs.Spread.{variables_of_import}
use Rattle.ms_logic_core.specs.Stands.{Stands}
use Rattle.ms_logic_core.specs.declared.core_formula.Lowered.{Lowered}
use Rattle.ms_logic_core.specs.declared.core_formula.Root.{Root}
use Rattle.ms_logic_measures.specs.Steps.{Step, root as step_of_root, steps_of}
use Rattle.ms_logic_words.specs.Content.{Content}
use Rattle.ms_logic_words.specs.declared.sign.Sign.{Sign}
use Rattle.ms_source_steps.proofs.Alike.{kind_alike}
use Rattle.ms_source_steps.proofs.Known.{IsKnownStep, steps_known}
use Rattle.ms_source_steps.proofs.Lacking.{named_again}
use Rattle.ms_source_steps.proofs.Scopes.{AreApart, rising_apart}
use Rattle.ms_source_steps.proofs.Standing.{orders_of}

module _ (mode : Mode) (first second : List Import) (orders : (i : ℕ) → orders_of (variables_of_import (slice_get first i)) ≡ orders_of (variables_of_import (slice_get second i)))
    (alike : AnswerAlike mode first second) (calls : Calls) (lowered : Lowered) (is : IsLowered first calls lowered) where
  own_apart : (root : Root) (of_root : IsLoweredRoot first calls lowered.orders root) → AreApart of_root.own
  own_apart root of_root = rising_apart of_root.own (subst (λ list. IsStrictlyIncreasing list) (sym of_root.variables) of_root.rising)

  -- each step of a root stands in some scope
  step_known : (root : Root) → IsLoweredRoot first calls lowered.orders root → (step : Step) → Contains (step_of_root (whole_root calls lowered.orders root) ∷ steps_of (whole_formula calls root)) step
      → IsKnownStep first step
  step_known root of_root step there = ⊎_elim
      (λ same.
      let again : of_root.own ≡ named lowered.orders root.variables = sym (named_again lowered.orders of_root.own of_root.listed) ∙ ap (named lowered.orders) of_root.variables in
      subst (IsKnownStep first) (sym same) (subst AreApart again (own_apart root of_root), subst (λ vs. Stands first vs (whole_formula calls root)) again of_root.stands))
      (λ later. steps_known first (whole_formula calls root) of_root.own (own_apart root of_root) of_root.stands step later)
      (Contains-cases (step_of_root (whole_root calls lowered.orders root)) (steps_of (whole_formula calls root)) step there)

  -- what is below each budget of a step of a root
  kind_below : (root : Root) (number : ℕ) → slice_get lowered.roots number ≡ Some root → (step : Step) → Contains (step_of_root (whole_root calls lowered.orders root) ∷ steps_of (whole_formula calls root)) step
      → (limit : ℕ) → IsBelowKind second mode step limit → IsBelowKind first mode step limit
  kind_below root number is_root step there limit one =
      let known = step_known root (each_at (IsLoweredRoot first calls lowered.orders) lowered.roots is.roots number root is_root) step there in
      record {
        kind = one.kind;
        has = one.has;
        below = λ files m r measure. one.below files m r (kind_alike mode first second orders alike files step known one.kind m r measure);
      }

  node_alike : (entries : List Entry) (i limit : ℕ) → IsBelowNode second calls mode lowered entries i limit → IsBelowNode first calls mode lowered entries i limit
  node_alike entries i limit found =
      let at = found.at in
      let step = found.below.0 in
      let whole = whole_formula calls at.root in
      let there = Contains-rest (step_of_root (whole_root calls lowered.orders at.root)) (steps_of whole) step (own_step_of_subformula whole at.formula at.occurs.subformula step found.below.1) in
      record { at = at; below = (step, found.below.1, kind_below at.root at.number at.is_root step there limit found.below.2) }

  root_alike : (i limit : ℕ) → IsBelowRoot second calls mode lowered i limit → IsBelowRoot first calls mode lowered i limit
  root_alike i limit found =
      let step = step_of_root (whole_root calls lowered.orders found.root) in
      record {
        root = found.root;
        is_root = found.is_root;
        below = kind_below found.root i found.is_root step (Contains-first step (steps_of (whole_formula calls found.root))) limit found.below;
      }

-- where the imports of a source answer as what is lent for them
module _ (checked : Checked) (answers : Answers) (contents : List (Content Sign)) (long : length answers ≡ length checked.imports) (lent : AreLentFor checked.mode checked.imports contents)
    (are : AreAnswersOf checked.mode checked.imports answers contents) (dag : Dag) (graph : IsGraphOf checked answers dag) (i limit : ℕ) where
  abbrev own : List Import
  own = (problem_of checked answers).given.imports

  pub below_own_node : IsBelowNode (imports_of contents) (calls_in checked answers) checked.mode graph.lowered dag.entries i limit → IsBelowNode own (calls_in checked answers) checked.mode graph.lowered dag.entries i limit
  below_own_node found =
      node_alike checked.mode (given_by checked.imports answers) (imports_of contents) (variables_alike checked.mode checked.imports answers contents lent long)
      (answers_alike checked.mode checked.imports answers contents lent are) (calls_in checked answers) graph.lowered graph.is_lowered dag.entries i limit found

  pub below_own_root : IsBelowRoot (imports_of contents) (calls_in checked answers) checked.mode graph.lowered i limit → IsBelowRoot own (calls_in checked answers) checked.mode graph.lowered i limit
  below_own_root found =
      root_alike checked.mode (given_by checked.imports answers) (imports_of contents) (variables_alike checked.mode checked.imports answers contents lent long)
      (answers_alike checked.mode checked.imports answers contents lent are) (calls_in checked answers) graph.lowered graph.is_lowered i limit found
