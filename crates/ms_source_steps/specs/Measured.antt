-- Each step of a source has a measure, so a limit that is enough for the source is below no step of it. The counts that measures ask for
-- are not computed, so that there is no measure is what is refuted.
use Rattle.std.specs.Prelude.{ℕ, List, ◌∷◌, Contains}
use Rattle.ms_build_steps.specs.Kinds.{IsMeasureOfKind, Kind, kinds_of}
use Rattle.ms_logic.specs.Lists.{AreRising}
use Rattle.ms_logic.specs.Truth.{Answer, Import}
use Rattle.ms_logic.specs.View.{Answers, problem_of}
use Rattle.ms_logic.specs.declared.checked.Checked.{Checked}
use Rattle.ms_logic.specs.declared.mode.Mode.{Mode}
use Rattle.ms_logic_core.specs.Roots.{Root}
use Rattle.ms_logic_core.specs.Stands.{Stands}
use Rattle.ms_logic_measures.specs.Budgets.{AreContentsOfImports}
use Rattle.ms_logic_measures.specs.Steps.{Step, root, steps_of}
use Rattle.ms_logic_words.specs.Content.{Content}
use Rattle.ms_names_rules.specs.Numbers.{IsWellNumbered}
use Rattle.ms_source_steps.specs.Laws.{IsBelowSource}
use Rattle.ms_source_steps.specs.Enough.{IsEnoughFor}

-- where the imports are those of files with contents, and the variables of a root rise and are the scope in which its formula stands, each
-- step of the root has a measure of each of its kinds
abbrev pub KnownStepsAreMeasured : Type 0
KnownStepsAreMeasured =
    (imports : List Import) (mode : Mode) (files others : List (Content Answer)) (whole : Root) (step : Step) (kind : Kind)
    → AreContentsOfImports mode imports files → AreRising whole.variables → Stands imports whole.variables whole.formula
    → Contains (root whole ∷ steps_of whole.formula) step → Contains (kinds_of step) kind
    → ¬ ¬ ((m r : ℕ) × IsMeasureOfKind imports mode others step kind m r)

-- a limit that is enough for a source is below no step of it
abbrev pub EnoughIsNotBelow : Type 0
EnoughIsNotBelow =
    (checked : Checked) (answers : Answers) (files : List (Content Answer)) (limit : ℕ)
    → IsWellNumbered checked → AreContentsOfImports checked.mode (problem_of checked answers).given.imports files
    → IsEnoughFor checked answers files limit → ¬ IsBelowSource checked answers limit
