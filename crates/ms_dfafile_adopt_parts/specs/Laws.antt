-- What makes a file the automaton of an import lacks nodes only below the budget of that import, and there is such a budget.
use Rattle.std.specs.Prelude.{◌≡◌, ◌≢◌, ℕ, ◌<◌, ◌≤◌, List, AllPairs, map, slice_get, Some}
use Rattle.ms_dfa.specs.Automaton.{IsAutomaton}
use Rattle.ms_dfa.specs.declared.plain.Plain.{Plain}
use Rattle.ms_dfafile.specs.File.{IsFile}
use Rattle.ms_dfafile_adopt.specs.Import.{HasVariables}
use Rattle.ms_dfafile_adopt.specs.Made.{IsRenamedFile}
use Rattle.ms_dfafile_adopt.specs.Short.{AdoptionLacks}
use Rattle.ms_logic.specs.Truth.{Answer, Import}
use Rattle.ms_logic.specs.declared.checked.MapPair.{MapPair}
use Rattle.ms_logic.specs.declared.mode.Mode.{Mode}
use Rattle.ms_logic_core.specs.CoreForm.{truth}
use Rattle.ms_logic_measures.specs.Budgets.{IsMeasureOf, budget, pair_variables}
use Rattle.ms_logic_measures.specs.CallMeasures.{HasReachedParts, IsAdoptMeasure, call_measure}
use Rattle.ms_logic_measures.specs.FullContent.{IsFullContent}
use Rattle.ms_logic_measures.specs.Steps.{import_of_source}
use Rattle.ms_logic_words.specs.Content.{Content}
use Rattle.ms_logic_words.specs.declared.sign.Sign.{Sign}
use Rattle.ms_dfafile_adopt_parts.specs.Files.{content_for, variables_of_pairs}

-- a limit is below each budget of the import of a file with these pairs, in whatever source it is the import with number i
abbrev pub IsBelowImport : Mode → Plain → List MapPair → ℕ → Type 0
IsBelowImport mode plain pairs limit =
    (imports : List Import) (files : List (Content Answer)) (i m r : ℕ)
    → pair_variables imports i ≡ variables_of_pairs pairs → slice_get files i ≡ Some (content_for pairs plain)
    → IsMeasureOf imports mode files (import_of_source i) m r → limit < budget m r

-- a file, each variable of which one pair names, lacks nodes as an import only under a limit below each budget of the import
abbrev pub LackingAdoptionsAreBelowTheirImport : Type 0
LackingAdoptionsAreBelowTheirImport =
    (mode : Mode) (plain : Plain) (pairs : List MapPair) (limit : ℕ)
    → IsFile plain → HasVariables plain pairs → AllPairs (λ one other. one ≢ other) (map (λ pair. pair.name) pairs)
    → AdoptionLacks limit plain pairs mode → IsBelowImport mode plain pairs limit

-- a limit that is at least each budget of the import of a file is not below it: the import has a measure. The counts that it asks for are not
-- computed, so that there is none is what is refuted
abbrev pub EnoughIsNotBelowImport : Type 0
EnoughIsNotBelowImport =
    (imports : List Import) (mode : Mode) (files : List (Content Answer)) (i : ℕ) (plain : Plain) (pairs : List MapPair) (limit : ℕ)
    → IsFile plain → pair_variables imports i ≡ variables_of_pairs pairs → slice_get files i ≡ Some (content_for pairs plain)
    → ((m r : ℕ) → IsMeasureOf imports mode files (import_of_source i) m r → budget m r ≤ limit) → ¬ IsBelowImport mode plain pairs limit

-- it does so only under a limit below the measure of the call that adopts it
abbrev pub AdoptionsAreWithinMeasure : Type 0
AdoptionsAreWithinMeasure =
    (imports : List Import) (mode : Mode) (plain : Plain) (pairs : List MapPair) (limit : ℕ)
    → IsFile plain → HasVariables plain pairs → AllPairs (λ one other. one ≢ other) (map (λ pair. pair.name) pairs)
    → AdoptionLacks limit plain pairs mode → (encodings : Content Sign) → IsFullContent imports mode (variables_of_pairs pairs) truth encodings
    → (m r : ℕ) → IsAdoptMeasure (content_for pairs plain) encodings m r → limit < call_measure m r

-- and starts lead what it makes to no more references than the number m of its measure
abbrev pub AdoptionsHaveFewParts : Type 0
AdoptionsHaveFewParts =
    (imports : List Import) (mode : Mode) (plain : Plain) (pairs : List MapPair) (made : Content Sign)
    → IsFile plain → AllPairs (λ one other. one ≢ other) (map (λ pair. pair.name) pairs)
    → IsAutomaton made → made.mode ≡ mode → made.variables ≡ variables_of_pairs pairs → IsRenamedFile plain pairs mode made
    → (encodings : Content Sign) → IsFullContent imports mode (variables_of_pairs pairs) truth encodings
    → (m r : ℕ) → IsAdoptMeasure (content_for pairs plain) encodings m r → (n : ℕ) → HasReachedParts made n → n ≤ m
