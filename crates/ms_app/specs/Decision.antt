-- What is found of a source: the answer to each of its questions.
use Rattle.std.specs.Prelude.{◌≡◌, ℕ, Bool, true, false, List, [], ◌∷◌, length, map, Option, Some, None}
use Rattle.std.specs.List.{AllZip}
use Rattle.ms_dfa.specs.declared.plain.FileVersion.{FileVersion}
use Rattle.ms_dfa.specs.declared.plain.Plain.{Plain}
use Rattle.ms_logic.specs.Verdict.{Problem}
use Rattle.ms_report.specs.declared.found.Answer.{Answer}
use Rattle.ms_report.specs.declared.found.Found.{Found}
use Rattle.ms_report.specs.declared.found.GoalAnswer.{GoalAnswer}
use Rattle.ms_logic.specs.declared.checked.Checked.{Checked}
use Rattle.ms_logic.specs.declared.checked.Placed.{Placed}
use Rattle.ms_logic.specs.declared.source.Loaded.{Loaded}
use Rattle.ms_app_answer.specs.Answer.{IsAnswer}
use Rattle.ms_app.specs.Counts.{HasStats}
use Rattle.ms_logic.specs.View.{Answers, declared_in, goal_question, goals_in, main_question}
use Rattle.ms_app.specs.Source.{IsSolved, Origin, answers_with}
use Rattle.ms_app.specs.Written.{AreFilesOf, File}

-- the main question is asked of a source that has a formula declaration, or no goal
abbrev pub asks_main : List Placed → List Placed → Bool
asks_main [] [] = true
asks_main [] (goal ∷ goals) = false
asks_main (declared ∷ more) goals = true

-- an answer to a question, where it is asked
abbrev pub AnswersMain : Bool → Problem → Option Answer → Type 0
AnswersMain false problem main = main ≡ None
AnswersMain true problem main = (answer : Answer) × (main ≡ Some answer) × IsAnswer problem answer

-- the answer to a goal, under its title
abbrev pub IsGoalAnswer : Checked → Answers → Placed → GoalAnswer → Type 0
IsGoalAnswer checked answers goal given = (goal.title ≡ Some given.title) × IsAnswer (goal_question checked answers goal) given.answer

-- What was found is true of the source, where its imports have these answers: of its main question, where that is asked, and of each goal,
-- in order.
pub record IsFound (checked : Checked) (answers : Answers) (found : Found) : Type 0 where
  pub globals : found.globals ≡ map (λ g. g.name) checked.globals
  pub main : AnswersMain (asks_main (declared_in checked) (goals_in checked)) (main_question checked answers) found.main
  pub goals : AllZip (IsGoalAnswer checked answers) (goals_in checked) found.goals

-- The source can be solved, and exports no file of one of the names `outs`; what was found is true of it, with counts where they are asked for;
-- and these are the automaton files of its exports, and of its main value where that is asked for, in a version.
pub record IsDecided (origin : Origin) (outs : List (List ℕ)) (out : Option (List ℕ)) (stats : Bool) (format : FileVersion) (found : Found) (files : List File) : Type 0 where
  pub loaded : Loaded
  pub checked : Checked
  pub plains : List Plain
  pub is : IsSolved origin outs loaded checked plains
  pub is_found : IsFound checked (answers_with checked plains) found
  pub counted : HasStats stats checked (answers_with checked plains) (length loaded.files) found.stats
  pub written : AreFilesOf format checked (answers_with checked plains) out files
