-- What a source lacks, by its steps.
use Rattle.std.specs.Prelude.{◌≡◌, ◌⊎◌, ℕ, suc, ◌+◌, List, ◌∷◌, length, Contains, All as Each}
use Rattle.ms_build.specs.Built.{IsWithin}
use Rattle.ms_build_source.specs.Graph.{IsGraphOf, calls_in}
use Rattle.ms_build_source.specs.Imported.{AreAnswersOf, AreLentFor}
use Rattle.ms_build_source.specs.Limits.{LacksNodes}
use Rattle.ms_build_steps.specs.Kinds.{IsBelowKind}
use Rattle.ms_build_steps.specs.Laws.{IsBelowNode, IsBelowRoot}
use Rattle.ms_dag.specs.declared.dag.Dag.{Dag}
use Rattle.ms_logic.specs.Verdict.{Problem}
use Rattle.ms_logic.specs.View.{Answers, goal_question, goals_in, main_question, problem_of}
use Rattle.ms_logic.specs.declared.checked.Checked.{Checked}
use Rattle.ms_logic.specs.declared.checked.Placed.{Placed}
use Rattle.ms_logic_core.specs.Roots.{IsRoot, Root}
use Rattle.ms_logic_measures.specs.Steps.{Step, root, steps_of}
use Rattle.ms_logic_words.specs.Content.{Content}
use Rattle.ms_logic_words.specs.declared.sign.Sign.{Sign}
use Rattle.ms_names_rules.specs.Numbers.{IsWellNumbered}

-- a step of the root of a question with this number: the root itself, or a step of its formula
abbrev pub IsStepOfRoot : Problem → ℕ → Step → Type 0
IsStepOfRoot problem i step = (whole : Root) × IsRoot problem i whole × Contains (root whole ∷ steps_of whole.formula) step

-- a step of a source: of the main root of its formula declarations, of the root of an export, which may stand in a goal too, or of the main
-- root of a goal
pub data IsStepOfSource (checked : Checked) (answers : Answers) (step : Step) : Type 0 where
  of_declarations : (is : IsStepOfRoot (main_question checked answers) 0 step) → IsStepOfSource checked answers step
  of_export : (i : ℕ) (is : IsStepOfRoot (problem_of checked answers) (suc i) step) → IsStepOfSource checked answers step
  of_goal : (goal : Placed) (among : Contains (goals_in checked) goal) (is : IsStepOfRoot (goal_question checked answers goal) 0 step) → IsStepOfSource checked answers step

-- a limit is below each budget of a step of a source, of one of the step's kinds, where the imports have these answers
pub record IsBelowSource (checked : Checked) (answers : Answers) (limit : ℕ) : Type 0 where
  pub step : Step
  pub is_step : IsStepOfSource checked answers step
  pub below : IsBelowKind (problem_of checked answers).given.imports checked.mode step limit

-- what a number of a refusal names, in the graph of a source: a node that occurs in a formula, and a limit is below each budget of an own
-- step of that formula; or a root, which count behind the nodes, and a limit is below each budget of its step
pub record IsBelowNumbered (checked : Checked) (answers : Answers) (limit number : ℕ) : Type 0 where
  pub dag : Dag
  pub graph : IsGraphOf checked answers dag
  pub below :
      IsBelowNode (problem_of checked answers).given.imports (calls_in checked answers) checked.mode graph.lowered dag.entries number limit
      ⊎ ((root : ℕ) × (number ≡ length dag.entries + root)
      × IsBelowRoot (problem_of checked answers).given.imports (calls_in checked answers) checked.mode graph.lowered root limit)

-- the step that has the number of the refusal is a step of the source, but for the numbers of bound variables, on which no measure hangs
abbrev pub NumberedStepsAreStepsOfSource : Type 0
NumberedStepsAreStepsOfSource =
    (checked : Checked) (answers : Answers) (limit number : ℕ)
    → IsWellNumbered checked → IsBelowNumbered checked answers limit number → IsBelowSource checked answers limit

-- a source lacks nodes in a step, over automata that are lent for its imports, answer as these do and are within the limit, only under a
-- limit below each budget of the step that has this number
abbrev pub LackingStepsAreBelowTheirBudgets : Type 0
LackingStepsAreBelowTheirBudgets =
    (checked : Checked) (answers : Answers) (contents : List (Content Sign)) (limit step : ℕ)
    → IsWellNumbered checked → AreLentFor checked.mode checked.imports contents → AreAnswersOf checked.mode checked.imports answers contents → Each (IsWithin limit) contents
    → LacksNodes checked answers contents limit step → IsBelowNumbered checked answers limit step

-- a source lacks nodes, over automata that are lent for its imports, answer as these do and are within the limit, only under a limit below
-- each budget of one of its steps, of one of the step's kinds
abbrev pub LackingSourcesAreBelowTheirSteps : Type 0
LackingSourcesAreBelowTheirSteps =
    (checked : Checked) (answers : Answers) (contents : List (Content Sign)) (limit step : ℕ)
    → IsWellNumbered checked → AreLentFor checked.mode checked.imports contents → AreAnswersOf checked.mode checked.imports answers contents → Each (IsWithin limit) contents
    → LacksNodes checked answers contents limit step → IsBelowSource checked answers limit
