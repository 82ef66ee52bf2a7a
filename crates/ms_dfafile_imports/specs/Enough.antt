-- The contents of the files of imports, and when a limit on nodes and states is enough for the imports.
use Rattle.std.specs.Prelude.{◌≡◌, ℕ, ◌<◌, ◌≤◌, List, length, map, Option, Some}
use Rattle.std.specs.List.{zip}
use Rattle.ms_dfa.specs.declared.plain.Plain.{Plain}
use Rattle.ms_dfafile_adopt_parts.specs.Files.{content_for}
use Rattle.ms_dfafile_imports.specs.Imports.{AreImported, EachImported, IsUnimported, answers_by}
use Rattle.ms_edge.specs.declared.refusal.Refusal.TheVariants.{Nodes}
use Rattle.ms_edge.specs.Files.{Holding, Seen}
use Rattle.ms_logic.specs.Lists.{Each}
use Rattle.ms_logic.specs.Truth.{Answer, Import}
use Rattle.ms_logic.specs.View.{import_of}
use Rattle.ms_logic.specs.declared.checked.ImportUse.{ImportUse}
use Rattle.ms_logic.specs.declared.mode.Mode.{Mode}
use Rattle.ms_logic_measures.specs.Budgets.{AreContentsOfImports, IsMeasureOf, budget}
use Rattle.ms_logic_measures.specs.Steps.{import_of_source}
use Rattle.ms_logic_words.specs.Content.{Content}
use Rattle.ms_names_checked.specs.Names.{AreDifferent}

-- the contents of imports of these files, one for each: those of the files, with what their signs say
abbrev pub contents_of : List ImportUse → List Plain → List (Content Answer)
contents_of uses plains = map (λ p. content_for p.0.pairs p.1) (zip uses plains)

-- what imports of these files answer
abbrev pub imports_by : List ImportUse → List Plain → List Import
imports_by uses plains = map (λ p. import_of p.0 p.1) (zip uses (answers_by uses plains))

-- a limit is at least each budget of each import
abbrev pub IsEnoughForImports : Mode → List ImportUse → List Plain → ℕ → Type 0
IsEnoughForImports mode uses plains limit =
    (i : ℕ) → i < length uses → (m r : ℕ)
    → IsMeasureOf (imports_by uses plains) mode (contents_of uses plains) (import_of_source i) m r → budget m r ≤ limit

-- the contents of the files of imports are those of the imports, where no two pairs of one import have one name
abbrev pub FilesAreContentsOfImports : Type 0
FilesAreContentsOfImports =
    (held : Option Holding) (mode : Mode) (uses : List ImportUse) (plains : List Plain)
    → Each (λ used. AreDifferent (map (λ pair. pair.name) used.pairs)) uses → EachImported held mode uses plains
    → AreContentsOfImports mode (imports_by uses plains) (contents_of uses plains)

-- where the files are told, imports that can be taken are not refused for want of nodes under a limit that is enough for them
abbrev pub EnoughImportsAreTaken : Type 0
EnoughImportsAreTaken =
    (seen : Seen) (holding : Holding) (mode : Mode) (uses : List ImportUse) (plains : List Plain) (limit step : ℕ)
    → seen.before.held ≡ Some holding → AreImported seen.before.held mode uses plains → IsEnoughForImports mode uses plains limit
    → ¬ IsUnimported seen mode limit uses (Nodes step limit)
