-- What files read as and load as, where their contents are told.
use Rattle.std.specs.Prelude.{◌≡◌, ℕ, List, Some}
use Rattle.ms_edge.specs.Files.{Holding, Seen}
use Rattle.ms_edge.specs.declared.refusal.Refusal.{Refusal}
use Rattle.ms_edge.specs.declared.refusal.Refusal.TheVariants.{Memory}
use Rattle.ms_logic.specs.declared.source.Loaded.{Loaded}
use Rattle.ms_logic.specs.declared.source.Source.{Source}
use Rattle.ms_include.specs.File.{IsNoSource, IsSource}
use Rattle.ms_include.specs.Load.{IsLoaded, IsLoadedText, IsRefusedLoad, IsRefusedText, files_of}
use Rattle.ms_include_laws.specs.Told.{IsFromOutside, TellSame}

-- a file reads as one source at most
abbrev pub FilesAreOneSource : Type 0
FilesAreOneSource =
    (holding : Holding) (number : ℕ) (name : List ℕ) (one other : Source) → IsSource (Some holding) number name one → IsSource (Some holding) number name other → one ≡ other

-- a file that reads as a source is refused for want of memory alone
abbrev pub SourceFilesAreRead : Type 0
SourceFilesAreRead =
    (holding : Holding) (number : ℕ) (name : List ℕ) (source : Source) (refusal : Refusal) →
    IsSource (Some holding) number name source → IsNoSource (Some holding) number name refusal → refusal ≡ Memory

-- a source with its includes in place is the same in two loads
abbrev pub LoadsAreOne : Type 0
LoadsAreOne =
    (seen other : Seen) → TellSame seen other → (base : ℕ) (name : List ℕ) (one two : Loaded) →
    IsLoaded (files_of seen base) name one → IsLoaded (files_of other base) name two → one ≡ two

-- a load of a source that loads is refused for no fault of the source
abbrev pub LoadableSourcesLoad : Type 0
LoadableSourcesLoad =
    (seen other : Seen) → TellSame seen other → (base : ℕ) (name : List ℕ) (loaded : Loaded) (refusal : Refusal) (read : List (List ℕ)) →
    IsLoaded (files_of seen base) name loaded → IsRefusedLoad (files_of other base) name refusal read → IsFromOutside other refusal

-- a text loads as one source at most
abbrev pub TextLoadsAreOne : Type 0
TextLoadsAreOne = (name bytes : List ℕ) (one other : Loaded) → IsLoadedText name bytes one → IsLoadedText name bytes other → one ≡ other

-- a text that loads is refused for want of memory alone
abbrev pub LoadableTextsLoad : Type 0
LoadableTextsLoad = (name bytes : List ℕ) (loaded : Loaded) (refusal : Refusal) → IsLoadedText name bytes loaded → IsRefusedText bytes refusal → refusal ≡ Memory
