-- What is proved of imports where the files are told.
use Rattle.std.specs.Prelude.{◌≡◌, ◌⊎◌, ℕ, List, Option, Some}
use Rattle.ms_dfa.specs.declared.plain.Plain.{Plain}
use Rattle.ms_edge.specs.Counts.{Rose}
use Rattle.ms_edge.specs.declared.refusal.Refusal.{Refusal}
use Rattle.ms_edge.specs.declared.refusal.Refusal.TheVariants.{Memory, Nodes}
use Rattle.ms_edge.specs.Files.{Holding, Seen}
use Rattle.ms_dfafile_imports.specs.Imports.{AreImported, IsUnimported}
use Rattle.ms_logic.specs.declared.checked.ImportUse.{ImportUse}
use Rattle.ms_logic.specs.declared.mode.Mode.{Mode}

-- the contents of imports are fixed by what the files hold
abbrev pub ToldImportsHaveOneContent : Type 0
ToldImportsHaveOneContent =
    (held : Option Holding) (holding : Holding) (mode : Mode) (uses : List ImportUse) (plains others : List Plain) → held ≡ Some holding
    → AreImported held mode uses plains → AreImported held mode uses others → plains ≡ others

-- memory is wanting, or there would be more nodes and states than the limit
abbrev pub IsWantOfRoom : ℕ → Refusal → Type 0
IsWantOfRoom limit refusal = (refusal ≡ Memory) ⊎ ((step : ℕ) × (refusal ≡ Nodes step limit))

-- imports whose files can be imported are refused for want of room alone, where no read failed
abbrev pub ToldImportsWantRoom : Type 0
ToldImportsWantRoom =
    (seen : Seen) (holding : Holding) (mode : Mode) (limit : ℕ) (uses : List ImportUse) (plains : List Plain) (refusal : Refusal) → seen.before.held ≡ Some holding
    → ¬ (Rose seen.before.faults seen.after.faults) → AreImported seen.before.held mode uses plains → IsUnimported seen mode limit uses refusal
    → IsWantOfRoom limit refusal
