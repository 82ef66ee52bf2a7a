-- When a limit on nodes and states is enough for a source, by the answers and the contents of its imports.
use Rattle.std.specs.Prelude.{ℕ, ◌<◌, ◌≤◌, List, length}
use Rattle.ms_logic.specs.Truth.{Answer}
use Rattle.ms_logic.specs.View.{Answers, problem_of}
use Rattle.ms_logic.specs.declared.checked.Checked.{Checked}
use Rattle.ms_logic_measures.specs.Budgets.{IsMeasureOf, budget}
use Rattle.ms_logic_measures.specs.Steps.{Step, import_of_source}
use Rattle.ms_logic_words.specs.Content.{Content}
use Rattle.ms_source_steps.specs.Laws.{IsStepOfSource}

-- a limit is enough for a source whose imports have these answers and contents: it is at least each budget of each of its steps, and of each
-- of its imports
pub record IsEnoughFor (checked : Checked) (answers : Answers) (files : List (Content Answer)) (limit : ℕ) : Type 0 where
  pub steps :
      (step : Step) → IsStepOfSource checked answers step → (m r : ℕ)
      → IsMeasureOf (problem_of checked answers).given.imports checked.mode files step m r → budget m r ≤ limit
  pub imports :
      (i : ℕ) → i < length checked.imports → (m r : ℕ)
      → IsMeasureOf (problem_of checked answers).given.imports checked.mode files (import_of_source i) m r → budget m r ≤ limit
