-- Each step of a source has a measure, so a limit that is enough for the source is below no step.
use Rattle.std.proofs.Common.{◌≡◌, ℕ, suc, List, [], ◌∷◌, Contains, slice_get, Some, ap, ◌∙◌}
use Rattle.std.proofs.lemmas.Option.{slice_get-get_or}
use Rattle.ms_build_source.proofs.Questions.{reads_globals}
use Rattle.ms_build_steps.specs.Kinds.{IsMeasureOfKind, Kind, kinds_of}
use Rattle.ms_build_steps.proofs.StepKinds.{measures_are_of_kinds}
use Rattle.ms_logic.specs.Truth.{Answer, Import}
use Rattle.ms_logic.specs.View.{Answers, declared_in, goals_in, problem_of, question_of}
use Rattle.ms_logic.specs.declared.checked.Checked.{Checked}
use Rattle.ms_logic.specs.declared.checked.Placed.{Placed}
use Rattle.ms_logic_measures.specs.Budgets.{AreContentsOfImports, budget}
use Rattle.ms_logic_measures.specs.Steps.{Step}
use Rattle.ms_logic_spread.specs.RootLaws.{AreFormulasOf}
use Rattle.ms_logic_spread.proofs.Questions.{declared_asked, goal_asked, whole_asked}
use Rattle.ms_logic_words.specs.Content.{Content}
use Rattle.ms_lower.proofs.RootScopes.{root_scopes}
use Rattle.ms_names_rules.specs.Numbers.{IsWellNumbered}
use Rattle.ms_source_steps.specs.Enough.{IsEnoughFor}
use Rattle.ms_source_steps.specs.Measured.{EnoughIsNotBelow}
use Rattle.ms_source_steps.proofs.KnownSteps.{known_steps_are_measured}
use Rattle.ms_source_steps.proofs.Measured.{not_above}
use Rattle.ms_source_steps.specs.Laws.{IsBelowSource, IsStepOfRoot, IsStepOfSource, of_declarations, of_export, of_goal}

-- an item that is contained stands at a place
held_at : {A : Type 0} (xs : List A) (x : A) → Contains xs x → (k : ℕ) × (slice_get xs k ≡ Some x)
held_at xs x there = (there.0, slice_get-get_or xs there.0 x there.1 ∙ ap Some there.2)

module _ (checked : Checked) (answers : Answers) (tied_files files : List (Content Answer)) (well : IsWellNumbered checked)
    (tied : AreContentsOfImports checked.mode (problem_of checked answers).given.imports tied_files) where
  abbrev imports_here : List Import
  imports_here = (problem_of checked answers).given.imports

  abbrev HasMeasures : Step → Type 0
  HasMeasures step = (kind : Kind) → Contains (kinds_of step) kind → ¬ ¬ ((m r : ℕ) × IsMeasureOfKind imports_here checked.mode files step kind m r)

  of_question : (asked : List Placed) → AreFormulasOf checked asked → (i : ℕ) (step : Step) → IsStepOfRoot (question_of checked answers asked) i step → HasMeasures step
  of_question asked among i step is kind has =
      let scopes = root_scopes checked answers asked i is.0 is.1 (reads_globals checked answers well asked among) in
      known_steps_are_measured imports_here checked.mode tied_files files is.0 step kind tied scopes.0 scopes.1 is.2 has

  source_step_measured : (step : Step) → IsStepOfSource checked answers step → HasMeasures step
  source_step_measured step (of_declarations is) = of_question (declared_in checked) (declared_asked checked) 0 step is
  source_step_measured step (of_export i is) = of_question checked.formulas (whole_asked checked) (suc i) step is
  source_step_measured step (of_goal goal among is) =
      let held = held_at (goals_in checked) goal among in
      of_question (goal ∷ []) (goal_asked checked held.0 goal held.1) 0 step is

-- the measures of the steps of a source do not depend on the contents that its imports are known by
pub enough_is_not_below_tied : (checked : Checked) (answers : Answers) (tied_files files : List (Content Answer)) (limit : ℕ) → IsWellNumbered checked
    → AreContentsOfImports checked.mode (problem_of checked answers).given.imports tied_files
    → IsEnoughFor checked answers files limit → IsBelowSource checked answers limit → ⊥
enough_is_not_below_tied checked answers tied_files files limit well tied enough found =
    let kind = found.below.kind in
    let has = found.below.has in
    source_step_measured checked answers tied_files files well tied found.step found.is_step kind has
    (λ one.
    let measure = (measures_are_of_kinds (problem_of checked answers).given.imports checked.mode files found.step one.0 one.1).1 (kind, has, one.2) in
    not_above (budget one.0 one.1) limit (enough.steps found.step found.is_step one.0 one.1 measure) (found.below.below files one.0 one.1 one.2))

pub enough_is_not_below : EnoughIsNotBelow
enough_is_not_below checked answers files limit well tied = enough_is_not_below_tied checked answers files files limit well tied
