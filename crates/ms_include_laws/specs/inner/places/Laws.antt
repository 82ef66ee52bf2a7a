-- What is proved of the places of a source.
use Rattle.std.specs.Prelude.{ℕ, List, [], ◌∷◌, ◌++◌, length}
use Rattle.ms_edge.specs.Files.{Seen}
use Rattle.ms_edge.specs.declared.refusal.Refusal.{Refusal}
use Rattle.ms_logic.specs.declared.checked.Checked.{Checked}
use Rattle.ms_logic.specs.declared.source.Loaded.{Loaded}
use Rattle.ms_include.specs.Load.{IsLoaded, IsLoadedText, IsRefusedLoad, IsRefusedText, files_of}
use Rattle.ms_names_rules.specs.declared.wanted.Wanted.{Wanted}
use Rattle.ms_names_rules.specs.Before.{Before}
use Rattle.ms_names_rules.specs.Checking.{IsFirstFault}
use Rattle.ms_logic.specs.Lists.{Each}
use Rattle.ms_names_rules.specs.Occurrence.{Occurrence, occurrences}
use Rattle.ms_names_rules.specs.Scope.{Scope}
use Rattle.ms_parse_grammar.specs.Tree.{Expression}
use Rattle.ms_names_rules.specs.Rules.{place}
use Rattle.ms_names_rules.specs.TypedSource.{IsTyped}
use Rattle.ms_include_laws.specs.inner.places.Places.{EachPlaceIn, HasPlacesInFiles, IsAmongFiles, IsToldOver, KeepsPlacesInFiles}

-- where the places of an expression are in files, so is that of each expression inside it
abbrev pub ExpressionsInsideHavePlaces : Type 0
ExpressionsInsideHavePlaces =
    (base count : ℕ) (s : Scope) (b : Before) (w : Wanted) (e : Expression) → EachPlaceIn (IsAmongFiles base count) e →
    Each (λ (o : Occurrence). IsAmongFiles base count (place o.expression)) (occurrences s b w e)

-- the places of a loaded source are in its files, and those of a text are in its one file
abbrev pub LoadedSourcesHavePlaces : Type 0
LoadedSourcesHavePlaces =
    (seen : Seen) (base : ℕ) (name : List ℕ) (loaded : Loaded) → IsLoaded (files_of seen base) name loaded → HasPlacesInFiles base loaded

abbrev pub LoadedTextsHavePlaces : Type 0
LoadedTextsHavePlaces = (name bytes : List ℕ) (loaded : Loaded) → IsLoadedText name bytes loaded → HasPlacesInFiles 0 loaded

-- a load that is refused can be told over the files that were read by then, behind those before them
abbrev pub RefusedLoadsAreTold : Type 0
RefusedLoadsAreTold =
    (seen : Seen) (before : List (List ℕ)) (name : List ℕ) (refusal : Refusal) (read : List (List ℕ)) →
    IsRefusedLoad (files_of seen (length before)) name refusal read → IsToldOver (before ++ read) refusal

abbrev pub RefusedTextsAreTold : Type 0
RefusedTextsAreTold = (name bytes : List ℕ) (refusal : Refusal) → IsRefusedText bytes refusal → IsToldOver (name ∷ []) refusal

-- the first fault of a source whose places are in its files can be told over these
abbrev pub FirstFaultsAreTold : Type 0
FirstFaultsAreTold =
    (before : List (List ℕ)) (loaded : Loaded) (refusal : Refusal) → HasPlacesInFiles (length before) loaded → IsFirstFault loaded refusal →
    IsToldOver (before ++ loaded.files) refusal

-- what such a source becomes keeps places in its files
abbrev pub TypedSourcesKeepPlaces : Type 0
TypedSourcesKeepPlaces =
    (base : ℕ) (loaded : Loaded) (checked : Checked) → HasPlacesInFiles base loaded → IsTyped loaded checked → KeepsPlacesInFiles base checked
