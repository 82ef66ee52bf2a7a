-- A source that lacks nodes lacks them below each budget of the step that has the number of the refusal.
use Rattle.std.proofs.Common.{◌≡◌, ◌⊎◌, ℕ, ◌+◌, ⊎_elim, inl, inr, List, [], ◌∷◌, All, length, map, refl, sym, ap, ap₂, subst, ◌∙◌}
use Rattle.ms_build.specs.Built.{AreImportsOf, IsWithin, imports_of}
use Rattle.ms_build.specs.Roots.{named}
use Rattle.ms_build_source.specs.Graph.{calls_in}
use Rattle.ms_build_source.specs.Imported.{AreLentFor}
use Rattle.ms_build_source.specs.Limits.{LacksNodes}
use Rattle.ms_build_source.proofs.ImportAnswers.{given_by, lent_to_nodes, variables_alike}
use Rattle.ms_build_source.proofs.ImportsOfExports.{all_roots_import}
use Rattle.ms_build_steps.specs.Laws.{IsBelowNode, IsBelowRoot, IsPlanned}
use Rattle.ms_build_steps.proofs.Graph.{lacking_is_below_its_steps}
use Rattle.ms_dag.specs.declared.dag.Dag.{Dag}
use Rattle.ms_dag.specs.declared.node.Entry.{Entry}
use Rattle.ms_dag.specs.Laws.{HasOrder}
use Rattle.ms_dag.specs.Share.{IsDagOf}
use Rattle.ms_dag.proofs.ImportLemmas.{nodes_import_as_roots_do}
use Rattle.ms_logic.specs.Assignment.{Variable}
use Rattle.ms_logic.specs.Lists.{Each}
use Rattle.ms_logic.specs.View.{Answers}
use Rattle.ms_logic.specs.declared.checked.Checked.{Checked}
use Rattle.ms_logic.specs.declared.mode.Mode.{Mode}
use Rattle.ms_logic.specs.declared.mode.Order.{Order}
use Rattle.ms_logic_core.specs.Calls.{Calls}
use Rattle.ms_logic_words.specs.Content.{Content}
use Rattle.ms_logic_words.specs.declared.sign.Sign.{Sign}
use Rattle.ms_names_rules.specs.Numbers.{IsWellNumbered}
use Rattle.ms_source_steps.proofs.Standing.{lowered_alike}

-- variables that have their orders, by their numbers
pub named_again : (orders : List Order) (vs : List Variable) → Each (HasOrder orders) vs → named orders (map (λ v. v.name) vs) ≡ vs
named_again orders [] each = refl
named_again orders (v ∷ vs) each = ap₂ (λ (u : Variable) us. u ∷ us) (ap (λ o. record { name = v.name; order = o }) each.0) (named_again orders vs each.1)

module _ (checked : Checked) (answers : Answers) (contents : List (Content Sign)) (limit step : ℕ) (well : IsWellNumbered checked) (long : length answers ≡ length checked.imports)
    (lent : AreLentFor checked.mode checked.imports contents) (lacks : LacksNodes checked answers contents limit step) where
  abbrev calls : Calls
  calls = calls_in checked answers

  planned : IsPlanned (imports_of contents) calls lacks.is_graph.lowered lacks.plan
  planned = record {
    lowered_is =
        lowered_alike (given_by checked.imports answers) (imports_of contents) (variables_alike checked.mode checked.imports answers contents lent long) calls lacks.is_graph.lowered lacks.is_graph.is_lowered;
    graph = subst (λ dag. IsDagOf calls lacks.is_graph.lowered dag) (sym lacks.is_plan.dag_is) lacks.is_graph.is_dag;
    imports_are = ap imports_of lacks.is_plan.imports_are;
  }

  -- each import of the graph has its automaton
  nodes_lent : AreImportsOf lacks.plan.imports.now lacks.plan.mode lacks.plan.dag.now.entries
  nodes_lent =
      let there = lent_to_nodes checked answers contents calls lacks.is_graph.lowered lacks.dag long lent lacks.is_graph.is_lowered lacks.is_graph.is_dag
      (nodes_import_as_roots_do calls lacks.is_graph.lowered lacks.dag (length checked.imports) lacks.is_graph.is_dag (all_roots_import checked answers lacks.is_graph.lowered well lacks.is_graph.roots)) in
      subst (λ dag. AreImportsOf lacks.plan.imports.now lacks.plan.mode dag.entries) (sym lacks.is_plan.dag_is)
      (subst (λ mode. AreImportsOf lacks.plan.imports.now mode lacks.dag.entries) (sym lacks.is_plan.mode_is)
      (subst (λ cs. AreImportsOf cs checked.mode lacks.dag.entries) (sym lacks.is_plan.imports_are) there))

  within_here : All (IsWithin limit) contents → All (IsWithin lacks.plan.limit) lacks.plan.imports.now
  within_here within = subst (λ n. All (IsWithin n) lacks.plan.imports.now) (sym lacks.is_plan.limit_is) (subst (λ cs. All (IsWithin limit) cs) (sym lacks.is_plan.imports_are) within)

  -- the node with the number of the refusal, or the root
  abbrev Short : Mode → List Entry → ℕ → Type 0
  Short mode entries most =
      IsBelowNode (imports_of contents) calls mode lacks.is_graph.lowered entries step most
      ⊎ ((root : ℕ) × (step ≡ length entries + root) × IsBelowRoot (imports_of contents) calls mode lacks.is_graph.lowered root most)

  pub below_number : All (IsWithin limit) contents → Short checked.mode lacks.dag.entries limit
  below_number within =
      let here = within_here within in
      let by = λ (k : ℕ). lacking_is_below_its_steps (imports_of contents) calls lacks.is_graph.lowered lacks.plan k planned nodes_lent here in
      let counted = ap (λ (dag : Dag). length dag.entries) lacks.is_plan.dag_is in
      subst (λ (dag : Dag). Short checked.mode dag.entries limit) lacks.is_plan.dag_is
      (subst (λ mode. Short mode lacks.plan.dag.now.entries limit) lacks.is_plan.mode_is
      (subst (λ most. Short lacks.plan.mode lacks.plan.dag.now.entries most) lacks.is_plan.limit_is
      (⊎_elim (λ node. inl ((by step).0 node)) (λ of_root. inr (of_root.0, of_root.1 ∙ sym (ap (λ n. n + of_root.0) counted), (by of_root.0).1 of_root.2)) lacks.lacks)))
