-- What comes of a generated source.
use Rattle.std.proofs.Common.{◌≡◌, ◌⊎◌, inl, inr, ℕ, true, List, [], ◌∷◌, ◌++◌, length, map, Option, None, Some, refl, sym, ap, subst, ◌∙◌}
use Rattle.ms_dfa.specs.declared.plain.FileVersion.TheVariants as versions
use Rattle.ms_dfafile_imports.specs.Adopted.{AreAdopted}
use Rattle.ms_dfafile_imports.specs.Imports.{answers_by}
use Rattle.ms_dfa.specs.declared.plain.Plain.{Plain}
use Rattle.ms_edge.specs.declared.refusal.Refusal.{Refusal}
use Rattle.ms_edge.specs.declared.refusal.Refusal.TheVariants.{Memory, Nodes}
use Rattle.ms_gen.proofs.Accepting.{sources-are-accepted}
use Rattle.ms_gen.proofs.EachLoad.{sources-are-valid}
use Rattle.ms_gen.specs.Generated.{IsNumber, generated}
use Rattle.ms_logic.specs.declared.checked.ImportUse.{ImportUse}
use Rattle.ms_logic_words.specs.declared.sign.Sign.{Sign}
use Rattle.ms_logic_words.specs.Content.{Content}
use Rattle.ms_logic.specs.Verdict.{IsValid, Problem}
use Rattle.ms_logic.specs.declared.checked.Global.{Global}
use Rattle.ms_logic.specs.declared.checked.Placed.{Placed}
use Rattle.ms_logic.specs.View.{declared_in, goals_in, main_question, problem_of}
use Rattle.ms_logic.specs.declared.checked.ExportUse.{ExportUse}
use Rattle.ms_logic.specs.declared.checked.Checked.{Checked}
use Rattle.ms_logic.specs.declared.source.Loaded.{Loaded}
use Rattle.ms_report.specs.declared.found.Answer.{Answer}
use Rattle.ms_report.specs.declared.found.Found.{Found}
use Rattle.ms_build_source.specs.Imported.{AreAnswersOf, AreLentFor}
use Rattle.ms_build_source.specs.Limits.{IsUnsolved, IsWithinLimits}
use Rattle.ms_app_words.specs.Command.{node_limit}
use Rattle.ms_app.specs.Answer.{IsNoNumber, generated_name}
use Rattle.ms_app.specs.Counts.{HasStats}
use Rattle.ms_app.specs.Decision.{AnswersMain, IsDecided, IsFound, asks_main}
use Rattle.ms_app.specs.inner.Laws.{GeneratedSourcesAreFoundValid}
use Rattle.ms_app.specs.Source.{IsAccepted, IsRefused, IsSolved, IsTaken, IsUnaccepted, answers_with, problem_with, text_of, unaccepted, unsolved}
use Rattle.ms_app.specs.Written.{AreFilesFrom, AreFilesOf, File}
use Rattle.ms_names_rules.specs.Numbers.{IsWellNumbered}
use Rattle.ms_app.proofs.Budgets.{below_budgets}
use Rattle.ms_app.proofs.Outs.{no_outs}
use Rattle.ms_app.proofs.Solvable.{solvable, texts_settle}
use Rattle.ms_app_answer.specs.Answer.{IsAnswer}
use Rattle.ms_app_answer.proofs.VerdictLemmas.{none_against, valid_alone}

-- why the generation is refused
abbrev pub IsRefusedGeneration : ℕ → Refusal → List (List ℕ) → Type 0
IsRefusedGeneration number refusal files =
    (refusal ≡ Memory) ⊎ IsNoNumber number refusal
    ⊎ (IsNumber number × ((step : ℕ) × (refusal ≡ Nodes step node_limit)) × IsRefused (text_of generated_name (generated number)) [] node_limit refusal files)

-- what imports nothing stands for one problem
alone_problem : (checked : Checked) (plains : List Plain) → checked.imports ≡ [] → problem_of checked [] ≡ problem_with checked plains
alone_problem checked plains none = ap (λ uses. problem_of checked (answers_by uses plains)) (sym none)

alone_question : (checked : Checked) (plains : List Plain) → checked.imports ≡ [] → main_question checked [] ≡ main_question checked (answers_with checked plains)
alone_question checked plains none = ap (λ uses. main_question checked (answers_by uses plains)) (sym none)

-- where there is no goal, the main question is asked
asked_alone : (declared : List Placed) → asks_main declared [] ≡ true
asked_alone [] = refl
asked_alone (first ∷ more) = refl

pub only_main : (checked : Checked) → goals_in checked ≡ [] → (problem : Problem) (main : Option Answer) → AnswersMain (asks_main (declared_in checked) (goals_in checked)) problem main
    → (answer : Answer) × (main ≡ Some answer) × IsAnswer problem answer
only_main checked none problem main answered =
    let asked : asks_main (declared_in checked) (goals_in checked) ≡ true = ap (asks_main (declared_in checked)) none ∙ asked_alone (declared_in checked) in
    subst (λ is_asked. AnswersMain is_asked problem main) asked answered

-- a generated source can be solved
pub generation-solved : (number : ℕ) (is : IsNumber number) → let found = sources-are-accepted number generated_name is in IsSolved (text_of generated_name (generated number)) [] found.loaded found.checked []
generation-solved number is =
    let found = sources-are-accepted number generated_name is in
    record {
      is = record {
        is = record { is_loaded = found.is_loaded; accepted = found.no_fault; typed = found.is_typed };
        free = no_outs _;
        imported = (found.within.imports, refl);
      };
      within = subst IsWithinLimits (alone_problem found.checked [] found.within.imports) (record { depth = found.within.depth; size = found.within.size });
    }

-- what is found of it is that it is valid
pub found-valid : GeneratedSourcesAreFoundValid
found-valid number stats format found files is decided =
    let accepted = decided.is.is.is in
    let uses = decided.is.is.imported.0 in
    let alone = sources-are-valid number generated_name decided.loaded decided.checked is accepted.is_loaded accepted.typed in
    let here = subst IsValid (alone_question decided.checked decided.plains uses) alone.1 in
    let problem = main_question decided.checked (answers_with decided.checked decided.plains) in
    let main = only_main decided.checked alone.0.goals problem found.main decided.is_found.main in
    (main.0, main.1, valid_alone problem here main.0.verdict main.2.verdict, none_against problem here main.0.counterexample main.2.counterexample)

-- so it is refused for want of memory or of nodes alone
wanting : (number : ℕ) → IsNumber number → (refusal : Refusal) (files : List (List ℕ)) → IsRefused (text_of generated_name (generated number)) [] node_limit refusal files → IsRefusedGeneration number refusal files
wanting number is refusal files why =
    let origin = text_of generated_name (generated number) in
    let found = sources-are-accepted number generated_name is in
    elim (solvable origin origin (texts_settle generated_name (generated number)) [] found.loaded found.checked [] (generation-solved number is) node_limit refusal files why) [
      | inl memory ↦ inl memory
      | inr wants ↦ inr (inr (is, wants.0, why))
    ]

-- the generated source with this number is accepted as this one, and is the only file that is named
pub record IsAcceptedAs (number : ℕ) (loaded : Loaded) (checked : Checked) (names : List (List ℕ)) : Type 0 where
  pub is_number : IsNumber number
  pub is : IsAccepted (text_of generated_name (generated number)) loaded checked
  pub only_own : generated_name ∷ [] ≡ names

module _ (number : ℕ) (is_number : IsNumber number) (bytes : List ℕ) (is_text : bytes ≡ generated number) (old new : List (List ℕ)) (none : old ≡ []) where
  only_own : new ≡ old ++ generated_name ∷ [] → generated_name ∷ [] ≡ new
  only_own grown = sym (grown ∙ ap (λ names. names ++ generated_name ∷ []) none)

  pub text_unaccepted : (refusal : Refusal) → (refusal ≡ Memory) ⊎ ((new ≡ old ++ generated_name ∷ []) × IsUnaccepted (text_of generated_name bytes) refusal (generated_name ∷ []))
      → IsRefusedGeneration number refusal new
  text_unaccepted refusal (inl memory) = inl memory
  text_unaccepted refusal (inr (grown, why)) =
      let P : List ℕ → Type 0 = λ text. IsRefused (text_of generated_name text) [] node_limit refusal new in
      wanting number is_number refusal new (subst P is_text (subst (IsRefused (text_of generated_name bytes) [] node_limit refusal) (only_own grown) (unaccepted why)))

  pub accepted_as : (loaded : Loaded) (checked : Checked) → IsAccepted (text_of generated_name bytes) loaded checked → new ≡ old ++ generated_name ∷ [] → IsAcceptedAs number loaded checked new
  accepted_as loaded checked is grown =
      let P : List ℕ → Type 0 = λ text. IsAccepted (text_of generated_name text) loaded checked in
      record { is_number = is_number; is = subst P is_text is; only_own = only_own grown }

module _ {number : ℕ} {loaded : Loaded} {checked : Checked} {names : List (List ℕ)} (made : IsAcceptedAs number loaded checked names) where
  -- it imports nothing, exports nothing and has no goals
  alone : (checked.imports ≡ []) × (checked.exports ≡ []) × (goals_in checked ≡ [])
  alone =
      let within = sources-are-valid number generated_name loaded checked made.is_number made.is.is_loaded made.is.typed in
      (within.0.imports, within.0.exports, within.0.goals)

  taken : IsTaken (text_of generated_name (generated number)) [] loaded checked []
  taken = record { is = made.is; free = no_outs _; imported = (alone.0, refl) }

  pub text_unsolved : IsWellNumbered checked → (contents : List (Content Sign)) → AreAdopted node_limit checked.mode checked.imports [] contents → (refusal : Refusal)
      → (refusal ≡ Memory) ⊎ IsUnsolved checked (answers_by checked.imports []) contents node_limit refusal → IsRefusedGeneration number refusal names
  text_unsolved numbered contents adopted refusal (inl memory) = inl memory
  text_unsolved numbered contents adopted refusal (inr why) =
      wanting number made.is_number refusal names
      (subst (IsRefused (text_of generated_name (generated number)) [] node_limit refusal) made.only_own
      (unsolved loaded checked [] taken (sym made.is.is_loaded.files) contents adopted why (below_budgets node_limit checked [] contents numbered adopted refusal why)))

  pub text_decided : (found : Found) (files : List File) → IsFound checked (answers_with checked []) found → IsWithinLimits (problem_with checked [])
      → HasStats true checked (answers_with checked []) (length loaded.files) found.stats → AreFilesOf versions.Two checked (answers_with checked []) None files
      → IsDecided (text_of generated_name (generated number)) [] None true versions.Two found files
  text_decided found files is_found within counted written = record {
    loaded = loaded;
    checked = checked;
    plains = [];
    is = record { is = taken; within = within };
    is_found = is_found;
    counted = counted;
    written = written;
  }

  -- its main question alone is asked
  pub main_alone : (found : Found) → IsFound checked (answers_with checked []) found
      → (answer : Answer) × (found.main ≡ Some answer) × IsAnswer (main_question checked (answers_with checked [])) answer
  main_alone found is = only_main checked alone.2 (main_question checked (answers_with checked [])) found.main is.main

  -- and no file is written
  pub no_files : (files : List File) → AreFilesOf versions.Two checked (answers_with checked []) None files → files ≡ []
  no_files files are =
      let answers = answers_with checked [] in
      let variables = map (λ (g : Global). g.name) checked.globals in
      let P : List ExportUse → Type 0 = λ exports. AreFilesFrom versions.Two (problem_of checked answers) (main_question checked answers) variables 0 exports None files in
      subst P alone.1 are

  -- its imports need no automata
  pub nothing_lent : (contents : List (Content Sign)) → contents ≡ [] → AreLentFor checked.mode checked.imports contents
  nothing_lent contents same =
      let P : List ImportUse → Type 0 = λ uses. AreLentFor checked.mode uses [] in
      subst (AreLentFor checked.mode checked.imports) (sym same) (subst P (sym alone.0) tt)

  pub nothing_adopted : (contents : List (Content Sign)) → contents ≡ [] → AreAdopted node_limit checked.mode checked.imports [] contents
  nothing_adopted contents same =
      let P : List ImportUse → Type 0 = λ uses. AreAdopted node_limit checked.mode uses [] [] in
      subst (AreAdopted node_limit checked.mode checked.imports []) (sym same) (subst P (sym alone.0) tt)

  pub nothing_answers : (contents : List (Content Sign)) → contents ≡ [] → AreAnswersOf checked.mode checked.imports (answers_by checked.imports []) contents
  nothing_answers contents same =
      let P : List ImportUse → Type 0 = λ uses. AreAnswersOf checked.mode uses (answers_by uses []) [] in
      subst (AreAnswersOf checked.mode checked.imports (answers_by checked.imports [])) (sym same) (subst P (sym alone.0) tt)

  pub nothing_counted : length (answers_by checked.imports []) ≡ length checked.imports
  nothing_counted = let P : List ImportUse → Type 0 = λ uses. length (answers_by uses []) ≡ length uses in subst P (sym alone.0) refl
