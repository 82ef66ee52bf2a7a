-- What is proved of generated sources.
use Rattle.std.specs.Prelude.{ℕ, List, []}
use Rattle.ms_gen.specs.Generated.{IsNumber, generated}
use Rattle.ms_include.specs.Load.{IsLoadedText}
use Rattle.ms_logic.specs.declared.checked.Checked.{Checked}
use Rattle.ms_logic.specs.declared.source.Loaded.{Loaded}
use Rattle.ms_logic.specs.Verdict.{IsValid}
use Rattle.ms_logic.specs.View.{main_question}
use Rattle.ms_names_rules.specs.TypedSource.{IsTyped}
use Rattle.ms_gen.specs.Accepted.{HasNoFault, IsAccepted, IsAloneWithinLimits}

-- a generated source is accepted, under any name
abbrev pub GeneratedSourcesAreAccepted : Type 0
GeneratedSourcesAreAccepted = (number : ℕ) (name : List ℕ) → IsNumber number → IsAccepted name (generated number)

-- however it is loaded, nothing is wrong with it
abbrev pub GeneratedSourcesHaveNoFault : Type 0
GeneratedSourcesHaveNoFault =
    (number : ℕ) (name : List ℕ) (loaded : Loaded) → IsNumber number → IsLoadedText name (generated number) loaded → HasNoFault loaded

-- and whatever checked source it becomes, this stands alone, is within the limits and is valid
abbrev pub GeneratedSourcesAreValid : Type 0
GeneratedSourcesAreValid =
    (number : ℕ) (name : List ℕ) (loaded : Loaded) (checked : Checked) → IsNumber number → IsLoadedText name (generated number) loaded →
    IsTyped loaded checked → IsAloneWithinLimits checked × IsValid (main_question checked [])
