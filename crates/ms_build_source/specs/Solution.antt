-- What is made of a source that can be solved.
use Rattle.std.specs.List.{AllZip}
use Rattle.std.specs.Prelude.{◌≡◌, ℕ, ◌+◌, ◌≤◌, List, [], ◌∷◌, length, map, Option, Some, None}
use Rattle.ms_dfa.specs.Files.{HasSignsOf, content_of_file}
use Rattle.ms_dfa.specs.declared.plain.FileVersion.{FileVersion}
use Rattle.ms_dfa.specs.declared.plain.Plain.{Plain}
use Rattle.ms_logic.specs.declared.checked.Checked.{Checked}
use Rattle.ms_logic.specs.declared.checked.ExportUse.{ExportUse}
use Rattle.ms_logic.specs.declared.checked.Placed.{Placed}
use Rattle.ms_logic.specs.Lists.{Each}
use Rattle.ms_logic_words.specs.declared.sign.Sign.{Sign}
use Rattle.ms_logic_words.specs.Content.{Content, variables_by_place}
use Rattle.ms_logic_core.specs.Size.{depth_of_source, size_of_source}
use Rattle.ms_logic.specs.Verdict.{Problem}
use Rattle.ms_logic.specs.View.{goal_question, goals_in, main_question, problem_of, Answers}
use Rattle.ms_build_source.specs.declared.solution.Solution.{Solution}
use Rattle.ms_build_source.specs.Values.{HasMainValue, IsExportFile}

-- the variables of its automaton go by their places, and each has a name; the automata of the goals are over the same variables
pub record IsNamed (solution : Solution) : Type 0 where
  pub one_each : length solution.names ≡ length solution.automaton.variables
  pub by_place : solution.automaton.variables ≡ variables_by_place (map (λ v. v.order) solution.automaton.variables)
  pub goals : Each (λ (content : Content Sign). content.variables ≡ solution.automaton.variables) solution.goals

-- the files of exports, numbered on from a first number
abbrev pub AreExportFiles : FileVersion → Problem → ℕ → List ExportUse → List Plain → Type 0
AreExportFiles version problem i [] [] = Unit {0}
AreExportFiles version problem i [] (plain ∷ plains) = ⊥
AreExportFiles version problem i (used ∷ uses) [] = ⊥
AreExportFiles version problem i (used ∷ uses) (plain ∷ plains) = IsExportFile version problem i used plain × AreExportFiles version problem (i + 1) uses plains

-- the files of all exports, where they are asked for in a version
abbrev pub HasExports : Option FileVersion → Problem → List ExportUse → List Plain → Type 0
HasExports None problem uses plains = plains ≡ []
HasExports (Some version) problem uses plains = AreExportFiles version problem 0 uses plains

-- a content's states and nodes have numbers of 32 bits, and its signs are as its version has them
pub record IsSpellable (plain : Plain) : Type 0 where
  pub few : length plain.nodes + length plain.states ≤ 4000000000
  pub signs : HasSignsOf plain.version (content_of_file plain)

-- an automaton with the value of the formula declarations over the globals, one with the value of each goal, in order, the names of the
-- globals, and the measures of the whole source
pub record IsSolution (checked : Checked) (answers : Answers) (solution : Solution) : Type 0 where
  pub value : HasMainValue (main_question checked answers) solution.automaton
  pub goals : AllZip (λ (goal : Placed) (content : Content Sign). HasMainValue (goal_question checked answers goal) content) (goals_in checked) solution.goals
  pub names_are : solution.names ≡ map (λ g. g.name) checked.globals
  pub size : solution.size ≡ size_of_source (problem_of checked answers)
  pub depth : solution.depth ≡ depth_of_source (problem_of checked answers)
