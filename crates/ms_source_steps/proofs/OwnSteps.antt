-- The roots of a source, with its own numbers, have the steps and the measures of those with the numbers of the graph.
use Rattle.std.proofs.Common.{◌≡◌, ℕ, zero, suc, ◌+◌, ◌-◌, ◌<◌, inl, inr, ⊎_elim, List, [], ◌∷◌, Contains, length, map, min, slice_get, Some, refl, sym, ap, subst, ◌∙◌, arith}
use Rattle.std.proofs.lemmas.Bool.{cases_lt}
use Rattle.std.proofs.lemmas.Option.{same_Some, slice_get_within, slice_get-get_or}
use Rattle.ms_arena.proofs.Lists.{slice_get-held}
use Rattle.ms_build.specs.Roots.{named}
use Rattle.ms_build_source.specs.Graph.{IsGraphOf, calls_in}
use Rattle.ms_build_source.proofs.Questions.{reads_globals}
use Rattle.ms_build_source.proofs.SharedRoots.{root_listed}
use Rattle.ms_build_source.proofs.Solved.{answers_counted}
use Rattle.ms_build_steps.specs.Kinds.{IsBelowKind, IsBelowOneOf, IsMeasureOfKind, kinds_of}
use Rattle.ms_build_steps.specs.Laws.{IsBelowRoots, whole_root}
use Rattle.ms_build_steps.proofs.Graph.{below_its_steps_is_below_roots}
use Rattle.ms_dag.specs.declared.dag.Dag.{Dag}
use Rattle.ms_diagram.proofs.ListLemmas.{Contains-cases}
use Rattle.ms_diagram.proofs.RootLemmas.{Contains-from_mapped}
use Rattle.ms_logic.specs.Assignment.{Variable}
use Rattle.ms_logic.specs.Lists.{AreRising, IsAmong, IsBelowFirst}
use Rattle.ms_logic.specs.Truth.{Import}
use Rattle.ms_logic.specs.View.{Answers, declared_in, goals_in, problem_of, question_of}
use Rattle.ms_logic.specs.declared.checked.Checked.{Checked}
use Rattle.ms_logic.specs.declared.checked.Placed.{Placed}
use Rattle.ms_logic.specs.declared.mode.Mode.{Mode}
use Rattle.ms_logic_core.specs.Roots.{Root, first_free}
use Rattle.ms_logic_core.specs.Stands.{Stands}
use Rattle.ms_logic_measures.specs.Steps.{Step, root as step_of_root, steps_of}
use Rattle.ms_lower.specs.Lowered.{IsRootFor}
use Rattle.ms_lower.specs.NumberLaws.{numbering_in}
use Rattle.ms_lower.specs.Numbering.{Numbering, with_new_numbers}
use Rattle.ms_lower.proofs.RootScopes.{root_scopes}
use Rattle.ms_lower.proofs.SameNumbers.{numbers_rise}
use Rattle.ms_logic_spread.specs.RootLaws.{AreFormulasOf}
use Rattle.ms_logic_spread.proofs.Questions.{declared_asked, goal_asked, whole_asked}
use Rattle.ms_names_rules.specs.Numbers.{IsWellNumbered}
use Rattle.ms_source_steps.specs.Laws.{IsBelowSource, IsStepOfRoot, LackingSourcesAreBelowTheirSteps, LackingStepsAreBelowTheirBudgets, NumberedStepsAreStepsOfSource, of_declarations, of_export, of_goal}
use Rattle.ms_source_steps.proofs.Answering.{below_own_node, below_own_root}
use Rattle.ms_source_steps.proofs.Known.{IsKnownStep, steps_known}
use Rattle.ms_source_steps.proofs.Lacking.{below_number, named_again}
use Rattle.ms_source_steps.proofs.NumberedMeasures.{kind_moved}
use Rattle.ms_source_steps.proofs.NumberedSteps.{moved_kinds, moved_step, steps_moved}
use Rattle.ms_source_steps.proofs.Numbers.{KnowsImports, NumbersRise}
use Rattle.ms_source_steps.proofs.Scopes.{AreApart}

-- rising variables are apart
above_first : (x : ℕ) (vs : List Variable) → IsBelowFirst x vs → AreRising vs → (v : Variable) → IsAmong vs v → x < v.name
above_first x [] below rising v among = absurd among
above_first x (w ∷ vs) below rising v (inl same) = subst (λ (u : Variable). x < u.name) same below
above_first x (w ∷ vs) below rising v (inr there) = let later = above_first w.name vs rising.0 rising.1 v there in omega (arith, below, later)

rises_apart : (vs : List Variable) → AreRising vs → AreApart vs
rises_apart [] rising u v first second same = absurd first
rises_apart (w ∷ vs) rising u v (inl one) (inl other) same = sym one ∙ other
rises_apart (w ∷ vs) rising u v (inl one) (inr other) same =
    let above = above_first w.name vs rising.0 rising.1 v other in
    let name = ap (λ (t : Variable). t.name) one in
    absurd (omega (arith, above, name, same))
rises_apart (w ∷ vs) rising u v (inr one) (inl other) same =
    let above = above_first w.name vs rising.0 rising.1 u one in
    let name = ap (λ (t : Variable). t.name) other in
    absurd (omega (arith, above, name, same))
rises_apart (w ∷ vs) rising u v (inr one) (inr other) same = rises_apart vs rising.1 u v one other same

-- what stands at a place is contained
contained : {A : Type 0} (xs : List A) (k : ℕ) (x : A) → slice_get xs k ≡ Some x → Contains xs x
contained xs k x held =
    let within = slice_get_within xs k x held in
    (k, within, same_Some _ _ (sym (slice_get-get_or xs k x within) ∙ held))

-- what is below a step of a root with other numbers is below one of the root
module _ (imports : List Import) (mode : Mode) (n : Numbering) (rise : NumbersRise n) (known : KnowsImports imports n) (own : Root) (apart : AreApart own.variables) (stands : Stands imports own.variables own.formula) where
  abbrev steps : List Step
  steps = step_of_root own ∷ steps_of own.formula

  known_step : (step : Step) → Contains steps step → IsKnownStep imports step
  known_step step there = ⊎_elim
      (λ same. subst (IsKnownStep imports) (sym same) (apart, stands))
      (λ later. steps_known imports own.formula own.variables apart stands step later)
      (Contains-cases (step_of_root own) (steps_of own.formula) step there)

  own_below : (limit : ℕ) → IsBelowOneOf imports mode (step_of_root (with_new_numbers n own) ∷ steps_of (with_new_numbers n own).formula) limit → IsBelowOneOf imports mode steps limit
  own_below limit found =
      let moved : step_of_root (with_new_numbers n own) ∷ steps_of (with_new_numbers n own).formula ≡ map (moved_step n) steps = ap (λ (more : List Step). step_of_root (with_new_numbers n own) ∷ more) (steps_moved n own.formula) in
      let one = Contains-from_mapped (moved_step n) steps found.0 (subst (λ list. Contains list found.0) moved found.1) in
      let step = one.0 in (
        step,
        one.1,
        record {
          kind = found.2.kind;
          has = subst (λ kinds. Contains kinds found.2.kind) (ap kinds_of (sym one.2) ∙ moved_kinds n step) found.2.has;
          below = λ files m r measure. found.2.below files m r
              (subst (λ s. IsMeasureOfKind imports mode files s found.2.kind m r) one.2 (kind_moved n rise imports known mode files step (known_step step one.1) found.2.kind m r measure));
        },
      )

module _ (checked : Checked) (answers : Answers) (well : IsWellNumbered checked) (dag : Dag) (graph : IsGraphOf checked answers dag) (limit : ℕ) where
  abbrev imports_here : List Import
  imports_here = (problem_of checked answers).given.imports

  module _ (found : IsBelowRoots imports_here (calls_in checked answers) checked.mode graph.lowered limit) where
    -- the root is that of a question
    own_step : (asked : List Placed) → AreFormulasOf checked asked → (i : ℕ) → IsRootFor checked (question_of checked answers asked) i found.root
        → (step : Step) × IsStepOfRoot (question_of checked answers asked) i step × IsBelowKind imports_here checked.mode step limit
    own_step asked among i one =
        let calls = calls_in checked answers in
        let orders = graph.lowered.orders in
        let globals = length checked.globals in
        let own = one.own in
        let variables : named orders found.root.variables ≡ one.made.variables
        = ap (named orders) (sym one.variables) ∙ named_again orders one.made.variables (root_listed checked orders graph.orders answers well asked among i found.root one) in
        let made : whole_root calls orders found.root ≡ one.made = λ j. record { variables = variables j; formula = sym one.formula j } in
        let n = numbering_in globals imports_here own in
        let scopes = root_scopes checked answers asked i own one.is_root (reads_globals checked answers well asked among) in
        let there = subst (λ (whole : Root). IsBelowOneOf imports_here checked.mode (step_of_root whole ∷ steps_of whole.formula) limit) (made ∙ one.numbers) found.below in
        let below = own_below imports_here checked.mode n (λ p o x y less. numbers_rise (min globals (first_free own.variables)) globals p o x y (omega arith) less) (λ j. refl) own
        (rises_apart own.variables scopes.0) scopes.1 limit there in
        (below.0, (own, one.is_root, below.1), below.2)

    of_number : (number : ℕ) → slice_get graph.lowered.roots number ≡ Some found.root → IsBelowSource checked answers limit
    of_number zero is =
        let one = own_step (declared_in checked) (declared_asked checked) 0 (graph.roots.main found.root is) in
        record { step = one.0; is_step = of_declarations one.1; below = one.2 }
    of_number (suc k) is = ⊎_elim
        (λ less.
        let one = own_step checked.formulas (whole_asked checked) (suc k) (graph.roots.exports k found.root less is) in
        record { step = one.0; is_step = of_export k one.1; below = one.2 })
        (λ beyond.
        let within = slice_get_within graph.lowered.roots (suc k) found.root is in
        let count = graph.roots.count in
        let j = k - length checked.exports in
        let goal = slice_get-held (goals_in checked) j (omega (arith, within, count, beyond)) in
        let place : k ≡ length checked.exports + j = omega (arith, beyond) in
        let there = subst (λ m. slice_get graph.lowered.roots (suc m) ≡ Some found.root) place is in
        let one = own_step (goal.0 ∷ []) (goal_asked checked j goal.0 goal.1) 0 (graph.roots.goals j goal.0 found.root goal.1 there) in
        record { step = one.0; is_step = of_goal goal.0 (contained (goals_in checked) j goal.0 goal.1) one.1; below = one.2 })
        (cases_lt k (length checked.exports))

    below_source : IsBelowSource checked answers limit
    below_source = of_number found.number found.is_root

-- the step that has the number of a refusal
pub numbered_steps_are_steps_of_source : NumberedStepsAreStepsOfSource
numbered_steps_are_steps_of_source checked answers limit number well found =
    below_source checked answers well found.dag found.graph limit
    (⊎_elim
    (λ node. below_its_steps_is_below_roots (problem_of checked answers).given.imports (calls_in checked answers) checked.mode found.graph.lowered found.dag.entries number limit (inl node))
    (λ root. below_its_steps_is_below_roots (problem_of checked answers).given.imports (calls_in checked answers) checked.mode found.graph.lowered found.dag.entries root.0 limit (inr root.2))
    found.below)

pub lacking_steps_are_below_their_budgets : LackingStepsAreBelowTheirBudgets
lacking_steps_are_below_their_budgets checked answers contents limit step well lent are within lacks =
    let long = answers_counted checked.mode checked.imports answers contents are in
    record {
      dag = lacks.dag;
      graph = lacks.is_graph;
      below = ⊎_elim
          (λ node. inl (below_own_node checked answers contents long lent are lacks.dag lacks.is_graph step limit node))
          (λ root. inr (root.0, root.1, below_own_root checked answers contents long lent are lacks.dag lacks.is_graph root.0 limit root.2))
          (below_number checked answers contents limit step well long lent lacks within);
    }

pub lacking_sources_are_below_their_steps : LackingSourcesAreBelowTheirSteps
lacking_sources_are_below_their_steps checked answers contents limit step well lent are within lacks =
    numbered_steps_are_steps_of_source checked answers limit step well (lacking_steps_are_below_their_budgets checked answers contents limit step well lent are within lacks)
