-- A source that was taken, with the automata of its imports, is decided or not solved.
use Rattle.std.proofs.Common.{◌≡◌, ◌⊎◌, ℕ, Bool, List, [], ◌++◌, length, map, All, Option, Some, sym, subst}
use Rattle.ms_names_checked.specs.Names.{AreDifferent}
use Rattle.ms_names_checked.specs.Spellings.{IsName}
use Rattle.ms_dfa.specs.declared.plain.FileVersion.{FileVersion}
use Rattle.ms_dfa.specs.declared.plain.Plain.{Plain}
use Rattle.ms_edge.specs.Files.{Seen}
use Rattle.ms_edge.specs.declared.refusal.Refusal.{Refusal}
use Rattle.ms_edge.specs.declared.refusal.Refusal.TheVariants.{Memory}
use Rattle.ms_build_source.proofs.SharedRoots.{each_all}
use Rattle.ms_dfafile_imports.specs.Adopted.{AreAdopted}
use Rattle.ms_dfafile_imports.specs.Imports.{answers_by}
use Rattle.ms_logic.specs.declared.checked.Checked.{Checked}
use Rattle.ms_logic.specs.declared.checked.Global.{Global}
use Rattle.ms_logic_words.specs.declared.sign.Sign.{Sign}
use Rattle.ms_logic.specs.declared.source.Loaded.{Loaded}
use Rattle.ms_logic_words.specs.Content.{Content}
use Rattle.ms_build_source.specs.Values.{HasMainValue}
use Rattle.ms_logic.specs.declared.checked.Placed.{Placed}
use Rattle.ms_logic.specs.View.{goal_question, goals_in, main_question, problem_of, Answers}
use Rattle.ms_report.specs.declared.found.Found.{Found}
use Rattle.ms_logic.specs.Lists.{Each}
use Rattle.ms_build_source.specs.Imported.{AreAnswersOf, AreLentFor}
use Rattle.ms_build_source.specs.Limits.{IsUnsolved, IsWithinLimits}
use Rattle.ms_build_source.specs.Solution.{HasExports, IsSolution, IsSpellable}
use Rattle.ms_build_source.specs.declared.solution.Solution.{Solution}
use Rattle.ms_build_source.proofs.Solved.{answers_counted, are_own_answers, own_answers}
use Rattle.ms_app.specs.Counts.{HasStats}
use Rattle.ms_app.specs.Decision.{IsDecided, IsFound}
use Rattle.ms_app.specs.inner.Files.{AreNames, AreWritable, HaveOwnNames, IsAmongNames}
use Rattle.ms_app.specs.inner.Right.{IsRight}
use Rattle.ms_app.specs.Source.{IsRefused, IsSolved, IsTaken, Origin, file_of}
use Rattle.ms_app.specs.Written.{AreFilesOf, File}
use Rattle.ms_app.proofs.Adopted.{are_answers}
use Rattle.ms_app.proofs.Comparisons.{RefusedWith, unsolved_refused}
use Rattle.ms_app.proofs.GoalLemmas.{zipped_long}
use Rattle.ms_app.proofs.Outs.{out_free}
use Rattle.ms_app.proofs.Writing.{all_writable, exports_counted, own_names}

module _ (checked : Checked) where
  abbrev global_names : List (List ℕ)
  global_names = map (λ (g : Global). g.name) checked.globals

  -- what is found of a source, for each list of answers that automata give
  abbrev pub FoundBy : List (Content Sign) → Option (List ℕ) → Bool → FileVersion → ℕ → Found → List File → Type 0
  FoundBy contents out stats format count found files =
      (answers : Answers) → AreAnswersOf checked.mode checked.imports answers contents →
      IsFound checked answers found × HasStats stats checked answers count found.stats × AreFilesOf format checked answers out files

  -- automata that imports have become
  module _ (limit : ℕ) (plains : List Plain) (contents : List (Content Sign)) (adopted : AreAdopted limit checked.mode checked.imports plains contents) where
    abbrev pub answers : Answers
    answers = answers_by checked.imports plains

    pub are : AreAnswersOf checked.mode checked.imports answers contents
    are = are_answers limit checked.mode checked.imports plains contents adopted

    pub counted : length answers ≡ length checked.imports
    counted = answers_counted checked.mode checked.imports answers contents are

    module _ (origin : Origin) (outs : List (List ℕ)) (loaded : Loaded) (taken : IsTaken origin outs loaded checked plains) where
      pub solved_of : ((answers : Answers) → IsWithinLimits (problem_of checked answers)) → IsSolved origin outs loaded checked plains
      solved_of within = record { is = taken; within = within answers }

      pub decided_of : (out : Option (List ℕ)) (stats : Bool) (format : FileVersion) (count : ℕ) → count ≡ length loaded.files → (found : Found) (files : List File) → FoundBy contents out stats format count found files
          → ((answers : Answers) → IsWithinLimits (problem_of checked answers)) → IsDecided origin outs out stats format found files
      decided_of out stats format count same found files by within =
          let all = by answers are in
          record {
            loaded = loaded;
            checked = checked;
            plains = plains;
            is = solved_of within;
            is_found = all.0;
            counted = subst (λ n. HasStats stats checked answers n found.stats) same all.1;
            written = all.2;
          }

      pub own_names_of : IsRight checked → (out : Option (List ℕ)) → IsAmongNames out outs → (stats : Bool) (format : FileVersion) (count : ℕ) (found : Found) (files : List File) → FoundBy contents out stats format count found files → HaveOwnNames files
      own_names_of right out among stats format count found files by =
          own_names format (problem_of checked answers) (main_question checked answers) global_names checked.exports out files right.meets_rules.names.files
          (out_free out outs checked.exports among taken.free) (by answers are).2

      pub unsolved_of : IsRight checked → (refusal : Refusal) (old new : List (List ℕ)) → new ≡ old ++ loaded.files
          → ((answers : Answers) → length answers ≡ length checked.imports → (refusal ≡ Memory) ⊎ IsUnsolved checked answers contents limit refusal)
          → RefusedWith old new (IsRefused origin outs limit refusal) refusal
      unsolved_of right refusal old new grown why = unsolved_refused origin outs limit refusal old new loaded checked plains taken grown contents adopted right.numbered (why answers counted)

  -- what is made of automata that are lent can be written
  module _ (right : IsRight checked) (contents : List (Content Sign)) (lent : AreLentFor checked.mode checked.imports contents) (solution : Solution) where
    abbrev own : Answers
    own = own_answers contents

    are_own : AreAnswersOf checked.mode checked.imports own contents
    are_own = are_own_answers checked.mode checked.imports contents lent

    pub names_good : ((answers : Answers) → AreAnswersOf checked.mode checked.imports answers contents → IsSolution checked answers solution) → AreNames solution.names
    names_good by =
        let same = (by own are_own).names_are in
        record { spelled = subst (All IsName) (sym same) (each_all IsName global_names right.names.globals); different = subst AreDifferent (sym same) right.meets_rules.names.globals }

    -- there is an automaton for each goal
    pub goals_as_many : ((answers : Answers) → AreAnswersOf checked.mode checked.imports answers contents → IsSolution checked answers solution)
        → length (goals_in checked) ≡ length solution.goals
    goals_as_many by =
        let R : Placed → Content Sign → Type 0 = λ g content. HasMainValue (goal_question checked own g) content in
        zipped_long R (goals_in checked) solution.goals (by own are_own).goals

    module _ (format : FileVersion) (exports : (answers : Answers) → AreAnswersOf checked.mode checked.imports answers contents → HasExports (Some format) (problem_of checked answers) checked.exports solution.exports) where
      pub as_many : length checked.exports ≡ length solution.exports
      as_many = exports_counted format (problem_of checked own) 0 checked.exports solution.exports (exports own are_own)

      pub writable : Each IsSpellable solution.exports → AreWritable solution.exports
      writable small = all_writable format (problem_of checked own) 0 checked.exports solution.exports (exports own are_own) small right.names.exports right.meets_rules.names.exports

-- the first source of a request
pub first_decided : (seen : Seen) (name : List ℕ) (outs : List (List ℕ)) (out : Option (List ℕ)) (stats : Bool) (format : FileVersion) (found : Found) (files : List File) (old : List (List ℕ)) → old ≡ []
    → IsDecided (file_of seen (length old) name) outs out stats format found files → IsDecided (file_of seen 0 name) outs out stats format found files
first_decided seen name outs out stats format found files old none is = let P : List (List ℕ) → Type 0 = λ names. IsDecided (file_of seen (length names) name) outs out stats format found files in subst P none is
