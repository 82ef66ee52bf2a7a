-- The limits that are enough for the inclusion.
use Rattle.std.proofs.Common.{◌≡◌, ℕ, suc, ◌≤◌, inl, List, [], Contains, codes, false, length, None, Some, refl, sym, ap, subst, ◌∙◌, arith}
use Rattle.std.proofs.lemmas.Option.{none-some}
use Rattle.ms_app.specs.Completeness.{CanBeSolved, IsEnoughForOrigin, IsFavoured}
use Rattle.ms_app.specs.Source.{IsEnoughWith, IsTaken, file_of}
use Rattle.ms_app.specs.inner.CompletenessExamples.{sink_after, still}
use Rattle.ms_app.proofs.Solvable.{files_settle}
use Rattle.ms_app_words.specs.declared.command.Command.TheVariants.{Decide}
use Rattle.ms_build_source.specs.Limits.{IsWithinLimits}
use Rattle.ms_dfa.specs.declared.plain.FileVersion.TheVariants as versions
use Rattle.ms_dfa.specs.declared.plain.Plain.{Plain}
use Rattle.ms_dfafile_imports.specs.Enough.{contents_of}
use Rattle.ms_dfafile_imports.specs.Imports.{answers_by}
use Rattle.ms_diagram.proofs.ListLemmas.{Contains-none}
use Rattle.ms_include_laws.proofs.of_loads.Typing.{one_main_question, one_problem, same_goals_asked}
use Rattle.ms_logic.specs.Verdict.{Problem}
use Rattle.ms_logic.specs.View.{goals_in, main_question, problem_of}
use Rattle.ms_logic.specs.declared.checked.Checked.{Checked}
use Rattle.ms_logic.specs.declared.checked.ImportUse.{ImportUse}
use Rattle.ms_logic.specs.declared.checked.Placed.{Placed}
use Rattle.ms_logic.specs.Tree as tree
use Rattle.ms_logic_core.specs.Roots.{main_root}
use Rattle.ms_logic_core.specs.inner.SpreadExamples.{subset_source}
use Rattle.ms_logic_measures.specs.Budgets.{IsMeasureOf, budget}
use Rattle.ms_logic_measures.specs.Steps.{Step, root}
use Rattle.ms_logic_measures.proofs.FullContents.{full_subset, full_true}
use Rattle.ms_logic_measures.proofs.SubsetBudgets.{enough_for_subset}
use Rattle.ms_logic_measures.proofs.SubsetStarts.{subset_pairs}
use Rattle.ms_logic_words.specs.inner.ContentExamples.{encodings_content, full_subset_content}
use Rattle.ms_names_rules.specs.Declarations.{first_fault_of}
use Rattle.ms_names_rules.specs.TypedSource.{IsTyped}
use Rattle.ms_source_steps.specs.Enough.{IsEnoughFor}
use Rattle.ms_source_steps.specs.Laws.{IsStepOfRoot, IsStepOfSource, of_declarations, of_export, of_goal}
use Rattle.ms_app_limits.specs.inner.Inclusion.{inclusion_files, inclusion_text, inclusion_words}
use Rattle.ms_app_limits.proofs.Asked.{asked}
use Rattle.ms_app_limits.proofs.EmptySource.{no_rise, none_mapped}
use Rattle.ms_app_limits.proofs.InclusionText.{inclusion-is, inclusion_checked, inclusion_loaded, inclusion_source, is_typed, items-viewed, read_as}

-- it can be solved
question_is : main_question inclusion_checked [] ≡ subset_source
question_is = λ i. record subset_source { formulas = tree.more_forms (inclusion-is i) tree.no_forms }

problem_is : problem_of inclusion_checked [] ≡ subset_source
problem_is = λ i. record subset_source { formulas = tree.more_forms (inclusion-is i) tree.no_forms }

taken : IsTaken (file_of (still inclusion_files) 0 (codes "a")) [] inclusion_loaded inclusion_checked []
taken = record {
  is = record {
    is_loaded = record {
      source = inclusion_source;
      is = (inclusion_text, record { holds = refl; within = omega arith }, read_as);
      mode = refl;
      items = (_, _, _, (refl, refl), (_, _, _, (refl, refl), (refl, refl), refl), refl);
    };
    accepted = ap (first_fault_of inclusion_loaded.mode) items-viewed;
    typed = is_typed;
  };
  free = λ k used less. absurd (omega (arith, less));
  imported = record { each = tt; once = λ i j one other p q held held' name at at'. absurd (none-some p at) };
}

pub solved : CanBeSolved (file_of (still inclusion_files) 0 (codes "a")) []
solved = (inclusion_loaded, inclusion_checked, [], record { is = taken; within = subst IsWithinLimits (sym problem_is) (record { depth = omega arith; size = omega arith }) })

-- its steps are those of var2 P, Q; P sub Q
module _ (checked : Checked) (typed : IsTyped inclusion_loaded checked) where
  question : subset_source ≡ main_question checked []
  question = sym question_is ∙ one_main_question inclusion_loaded inclusion_checked checked [] is_typed typed

  problem : subset_source ≡ problem_of checked []
  problem = sym problem_is ∙ one_problem inclusion_loaded inclusion_checked checked [] is_typed typed

  no_goals : goals_in checked ≡ []
  no_goals = none_mapped _ (goals_in checked) (same_goals_asked inclusion_loaded checked inclusion_checked [] typed is_typed)

  no_imports : checked.imports ≡ []
  no_imports = typed.imports_are ∙ sym is_typed.imports_are

  abbrev Measures : Problem → Step → ℕ → ℕ → Type 0
  Measures p step m r = IsMeasureOf p.given.imports p.mode [] step m r

  measured : (step : Step) (m r : ℕ) → IsMeasureOf (problem_of checked []).given.imports checked.mode [] step m r → Measures subset_source step m r
  measured step m r measure = subst (λ (p : Problem). Measures p step m r) (sym problem) measure

  each_step : (step : Step) → IsStepOfSource checked [] step → (m r : ℕ) → IsMeasureOf (problem_of checked []).given.imports checked.mode [] step m r → budget m r ≤ 30976
  each_step step (of_declarations is) m r measure =
      let here : IsStepOfRoot subset_source 0 step = subst (λ (p : Problem). IsStepOfRoot p 0 step) (sym question) is in
      enough_for_subset step (inl (0, here.0, here.1, here.2)) m r (measured step m r measure)
  each_step step (of_export i is) m r measure =
      let here : IsStepOfRoot subset_source (suc i) step = subst (λ (p : Problem). IsStepOfRoot p (suc i) step) (sym problem) is in
      enough_for_subset step (inl (suc i, here.0, here.1, here.2)) m r (measured step m r measure)
  each_step step (of_goal goal among is) m r measure = absurd (Contains-none goal (subst (λ (gs : List Placed). Contains gs goal) no_goals among))

  enough_alone : IsEnoughFor checked [] [] 30976
  enough_alone = record {
    steps = each_step;
    imports = λ i below m r measure. absurd (let none = ap (λ (uses : List ImportUse). length uses) no_imports in omega (arith, below, none));
  }

  pub enough_with : (plains : List Plain) → IsEnoughWith checked plains 30976
  enough_with plains = subst (λ (uses : List ImportUse). IsEnoughFor checked (answers_by uses plains) (contents_of uses plains) 30976) (sym no_imports) enough_alone

pub enough : IsEnoughForOrigin (file_of (still inclusion_files) 0 (codes "a")) [] 30976
enough loaded checked plains is =
    let seen = still inclusion_files in
    let settles = files_settle seen seen (record { holding = λ name. Some inclusion_text; one_told = refl; other_told = refl }) no_rise 0 (codes "a") in
    let same_load : inclusion_loaded ≡ loaded = settles.one_load inclusion_loaded loaded taken.is.is_loaded is.is.is_loaded in
    enough_with checked (subst (λ l. IsTyped l checked) (sym same_load) is.is.typed) plains

pub too_little : IsEnoughForOrigin (file_of (still inclusion_files) 0 (codes "a")) [] 30975 → ⊥
too_little all =
    let here : IsStepOfRoot (main_question inclusion_checked []) 0 (root (main_root subset_source)) =
    subst (λ (p : Problem). IsStepOfRoot p 0 (root (main_root subset_source))) (sym question_is) (main_root subset_source, refl, (0, omega arith, refl)) in
    let within : budget 4 5 ≤ 30975 =
    (all inclusion_loaded inclusion_checked [] taken).steps (root (main_root subset_source)) (of_declarations here) 4 5
    (record { content = full_subset_content; encodings = encodings_content; of_formula = full_subset; of_true = full_true; made = subset_pairs; read = refl }) in
    omega (arith, within)

pub favoured : IsFavoured inclusion_words (sink_after 0) (sink_after 0) (still inclusion_files) (Decide (codes "a") None 30976 false versions.Two)
favoured = record {
  is_command = asked;
  can_be_done = solved;
  nothing_failed = record { holding = λ name. Some inclusion_text; told = refl; works = no_rise; prints = no_rise };
  enough = enough;
}
