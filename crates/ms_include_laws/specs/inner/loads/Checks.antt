-- Which loaded sources are not refused further on.
use Rattle.std.specs.Prelude.{◌≡◌, ℕ, ◌≤◌, List, map, Option, None}
use Rattle.ms_edge.specs.declared.refusal.Refusal.{Refusal}
use Rattle.ms_logic_core.specs.Size.{depth_of_source, size_of_source}
use Rattle.ms_logic.specs.Verdict.{Problem}
use Rattle.ms_logic.specs.View.{problem_of, main_question, goal_question, goals_in, Answers}
use Rattle.ms_logic.specs.declared.checked.Checked.{Checked}
use Rattle.ms_logic.specs.declared.checked.Placed.{Placed}
use Rattle.ms_logic.specs.declared.source.Loaded.{Loaded}
use Rattle.ms_lower.specs.Measure.{IsDepthRefusal, IsSizeRefusal}
use Rattle.ms_names_rules.specs.Checking.{IsFirstFault}
use Rattle.ms_names_rules.specs.Declarations.{first_fault_of}
use Rattle.ms_names_rules.specs.TypedSource.{IsTyped}
use Rattle.ms_parse_grammar.specs.View.{declared_of}

-- a source without a fault passes the check
abbrev pub FaultlessSourcesPass : Type 0
FaultlessSourcesPass = (loaded : Loaded) (refusal : Refusal) → first_fault_of loaded.mode (map declared_of loaded.items) ≡ None → ¬ IsFirstFault loaded refusal

-- a source that is within the limit of depth is not too deep, and one within that of size not too large
abbrev pub ShallowSourcesPass : Type 0
ShallowSourcesPass =
    (checked : Checked) (answers : Answers) (refusal : Refusal) → depth_of_source (problem_of checked answers) ≤ 300 → ¬ IsDepthRefusal checked answers refusal

abbrev pub SmallSourcesPass : Type 0
SmallSourcesPass =
    (checked : Checked) (answers : Answers) (refusal : Refusal) → size_of_source (problem_of checked answers) ≤ 1000000 → ¬ IsSizeRefusal checked answers refusal

-- a loaded source becomes one problem
abbrev pub TypedSourcesAreOneProblem : Type 0
TypedSourcesAreOneProblem =
    (loaded : Loaded) (one other : Checked) (answers : Answers) → IsTyped loaded one → IsTyped loaded other → problem_of one answers ≡ problem_of other answers

-- what the goals of a source ask, each under its title
abbrev pub goals_asked : Checked → Answers → List (Option (List ℕ) × Problem)
goals_asked checked answers = map (λ (goal : Placed). (goal.title, goal_question checked answers goal)) (goals_in checked)

-- a loaded source asks one main question, and its goals the same, whichever tree of the code stands for it
abbrev pub TypedSourcesAskTheSame : Type 0
TypedSourcesAskTheSame =
    (loaded : Loaded) (one other : Checked) (answers : Answers) → IsTyped loaded one → IsTyped loaded other →
    (main_question one answers ≡ main_question other answers) × (goals_asked one answers ≡ goals_asked other answers)
