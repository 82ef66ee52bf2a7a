-- A source of several files as one list of declarations, or why it is refused.
use Rattle.std.specs.Prelude.{◌≡◌, ℕ, ◌⊎◌, List, [], ◌∷◌, Option, Some, None}
use Rattle.ms_edge.specs.Files.{Seen}
use Rattle.ms_list.specs.declared.at.At.{At}
use Rattle.ms_edge.specs.declared.refusal.Refusal.{Refusal}
use Rattle.ms_edge.specs.declared.refusal.Refusal.TheVariants.{NotHere}
use Rattle.ms_logic.specs.declared.mode.Mode.{Mode}
use Rattle.ms_logic.specs.declared.mode.Mode.TheVariants.{Ws1s}
use Rattle.ms_logic.specs.declared.source.Loaded.{Loaded}
use Rattle.ms_logic.specs.declared.source.Source.{Source}
use Rattle.ms_logic.specs.declared.source.Item.{Item}
use Rattle.ms_include.specs.File.{ReadAs, ReadAsNone, IsSource, IsNoSource, IsUnread}
use Rattle.ms_include.specs.Include.{Files, include_of, and_next, AllBecome, Loads, OneStops, IsRefused, greatest_depth}

-- the mode of a source is that of its header, and else WS1S
abbrev pub mode_of : Option (At × Mode) → Mode
mode_of None = Ws1s
mode_of (Some (at, mode)) = mode

-- the files as they were seen in a request
abbrev pub files_of : Seen → ℕ → Files
files_of seen base = record { base = base; Is = IsSource seen.before.held; IsUnread = IsUnread seen; IsNoSource = IsNoSource seen.before.held }

-- the main file of this name, with its includes put in place
pub record IsLoaded (files : Files) (name : List ℕ) (loaded : Loaded) : Type 0 where
  pub source : Source
  pub is : files.Is files.base name source
  pub mode : loaded.mode ≡ mode_of source.header
  pub items : AllBecome (Loads files greatest_depth) (and_next files [] [] name) (name ∷ []) source.items loaded.files loaded.items

-- the main file of this name is refused, or one that it includes; these files were read by then
abbrev pub IsRefusedLoad : Files → List ℕ → Refusal → List (List ℕ) → Type 0
IsRefusedLoad files name refusal after =
    (files.IsUnread None name refusal × (after ≡ []))
    ⊎ (files.IsNoSource files.base name refusal × (after ≡ name ∷ []))
    ⊎ ((source : Source) × files.Is files.base name source
    × OneStops (Loads files greatest_depth) (IsRefused files greatest_depth) (and_next files [] [] name) (name ∷ []) source.items refusal after)

-- the place of the name in the first include of a list, if there is one
abbrev pub place_or : Option (At × List ℕ) → Option At → Option At
place_or None later = later
place_or (Some (at, name)) later = Some at

abbrev pub first_include : List Item → Option At
first_include [] = None
first_include (item ∷ more) = place_or (include_of item.decl) (first_include more)

-- a text by itself, under a name of its own, without any include
pub record IsLoadedText (name bytes : List ℕ) (loaded : Loaded) : Type 0 where
  pub source : Source
  pub reads : ReadAs 0 bytes source
  pub alone : first_include source.items ≡ None
  pub mode : loaded.mode ≡ mode_of source.header
  pub items : loaded.items ≡ source.items
  pub files : loaded.files ≡ name ∷ []

-- the text is refused: it reads as no source, or has an include, which is refused at its name
abbrev pub IsRefusedText : List ℕ → Refusal → Type 0
IsRefusedText bytes refusal =
    ReadAsNone 0 bytes refusal
    ⊎ ((source : Source) × (at : At) × ReadAs 0 bytes source × (first_include source.items ≡ Some at) × (refusal ≡ NotHere at))
