-- Includes put in place: what a list of declarations becomes once each include in it is replaced by the declarations of
-- its file (MONA Version 1.4 User Manual, Klarlund and Møller 2001, on `include`), or where that ends.
use Rattle.std.specs.Prelude.{◌≡◌, ℕ, zero, suc, ◌+◌, ◌<◌, ◌≤◌, Bool, true, false, ◌||◌, bytes_eq, ◌⊎◌, List, [], ◌∷◌, ◌++◌, length, map, Option, Some, None}
use Rattle.ms_list.specs.declared.at.At.{At}
use Rattle.ms_edge.specs.declared.refusal.Refusal.{Refusal}
use Rattle.ms_edge.specs.declared.refusal.Refusal.TheVariants.{NotHere, IncludeCycle, Includes}
use Rattle.ms_logic.specs.declared.mode.Mode.{Mode}
use Rattle.ms_logic.specs.declared.source.Decl.{Decl}
use Rattle.ms_logic.specs.declared.source.Decl.TheVariants.{Vars, Const, Pred, Include, Default, Formula, Goal}
use Rattle.ms_logic.specs.declared.source.Item.{Item}
use Rattle.ms_logic.specs.declared.source.Source.{Source}
use Rattle.ms_include.specs.declared.begun.Begun.{Begun}

-- the name is one of these
abbrev pub is_among : List ℕ → List (List ℕ) → Bool
is_among name [] = false
is_among name (first ∷ more) = bytes_eq name first || is_among name more

-- A chain leads from the main file to one that it includes, directly or through others; its loading goes on.
abbrev pub names : List Begun → List (List ℕ)
names chain = map (λ b. b.name) chain

abbrev pub numbers : List Begun → List ℕ
numbers chain = map (λ b. b.number) chain

-- the file was read before, and its loading has ended
abbrev pub HasEnded : List Begun → List (List ℕ) → List ℕ → Type 0
HasEnded chain read name = (is_among name read ≡ true) × (is_among name (names chain) ≡ false)

-- where the file of an include is named, and its name
abbrev pub include_of : Decl → Option (At × List ℕ)
include_of (Vars bounds) = None
include_of (Const at n sum) = None
include_of (Pred is_pred at n bounds body) = None
include_of (Include at file) = Some (at, file)
include_of (Default o n body) = None
include_of (Formula e) = None
include_of (Goal at title e) = None

-- how deep includes may go, the main file being at depth 0, and how many files one source may have
abbrev pub greatest_depth : ℕ
greatest_depth = 16

abbrev pub most_files : ℕ
most_files = 64

-- What the files of a source are. The number of a file is its place among the files that were read, counted from `base`
-- on.
pub record Files : Type 1 where
  pub base : ℕ
  -- the file with this number and this name reads as this source
  pub Is : ℕ → List ℕ → Source → Type 0
  -- the file of this name, which is named at this place, is refused since it cannot be read
  pub IsUnread : Option At → List ℕ → Refusal → Type 0
  -- the file with this number and this name was read, and is refused since it reads as no source
  pub IsNoSource : ℕ → List ℕ → Refusal → Type 0

-- Below, `chain` are the files whose loading goes on, from the main file to the one whose declarations these are; `read`
-- are the names of all files that were read before, in order, and `after` of those that were read when it is done.

-- What the declarations of a new file are.
abbrev pub Loading : Type 1
Loading = List Begun → List (List ℕ) → List ℕ → List (List ℕ) → List Item → Type 0

-- An include becomes nothing where the loading of its file has ended, and the declarations of its file where that is new.
-- Any other declaration stays as it is.
abbrev pub Becomes : Loading → List Begun → List (List ℕ) → Item → Option (At × List ℕ) → List (List ℕ) → List Item → Type 0
Becomes Loads chain read item None after items = (after ≡ read) × (items ≡ item ∷ [])
Becomes Loads chain read item (Some (at, name)) after items =
    (HasEnded chain read name × (after ≡ read) × (items ≡ [])) ⊎ ((is_among name read ≡ false) × Loads chain read name after items)

-- one declaration after the other
abbrev pub AllBecome : Loading → List Begun → List (List ℕ) → List Item → List (List ℕ) → List Item → Type 0
AllBecome Loads chain read [] after items = (after ≡ read) × (items ≡ [])
AllBecome Loads chain read (first ∷ more) after items =
    (between : List (List ℕ)) × (one rest : List Item) × Becomes Loads chain read first (include_of first.decl) between one
    × AllBecome Loads chain between more after rest × (items ≡ one ++ rest)

-- the chain with the next file
abbrev pub and_next : Files → List Begun → List (List ℕ) → List ℕ → List Begun
and_next files chain read name = chain ++ record { number = files.base + length read; name = name } ∷ []

-- The declarations of an included file, below whose includer includes go so much deeper at most.
abbrev pub Loads : Files → ℕ → Loading
Loads files zero chain read name after items = ⊥
Loads files (suc deeper) chain read name after items =
    (source : Source) × (length read < most_files) × files.Is (files.base + length read) name source × (source.header ≡ None)
    × AllBecome (Loads files deeper) (and_next files chain read name) (read ++ name ∷ []) source.items after items

-- Why a new file, which is named at this place, is refused, or one that it includes; `after` are the files that were read
-- by then.
abbrev pub Stopping : Type 1
Stopping = List Begun → List (List ℕ) → At → List ℕ → Refusal → List (List ℕ) → Type 0

-- An include of a file whose loading goes on is a cycle.
abbrev pub Stops : Stopping → List Begun → List (List ℕ) → Option (At × List ℕ) → Refusal → List (List ℕ) → Type 0
Stops IsRefused chain read None refusal after = ⊥
Stops IsRefused chain read (Some (at, name)) refusal after =
    ((is_among name (names chain) ≡ true) × (refusal ≡ IncludeCycle at name (numbers chain)) × (after ≡ read))
    ⊎ ((is_among name read ≡ false) × IsRefused chain read at name refusal after)

-- the first declaration that is refused
abbrev pub OneStops : Loading → Stopping → List Begun → List (List ℕ) → List Item → Refusal → List (List ℕ) → Type 0
OneStops Loads IsRefused chain read [] refusal after = ⊥
OneStops Loads IsRefused chain read (first ∷ more) refusal after =
    Stops IsRefused chain read (include_of first.decl) refusal after
    ⊎ ((between : List (List ℕ)) × (one : List Item) × Becomes Loads chain read first (include_of first.decl) between one
    × OneStops Loads IsRefused chain between more refusal after)

-- a header stands in an included file
abbrev pub IsHeaderFault : Option (At × Mode) → Refusal → Type 0
IsHeaderFault None refusal = ⊥
IsHeaderFault (Some (at, mode)) refusal = refusal ≡ NotHere at

-- An included file is refused: it is too deep, or one too many; else it is not read; it is read and is no source; it has
-- a header; or one of its declarations is refused.
abbrev pub IsRefused : Files → ℕ → Stopping
IsRefused files zero chain read at name refusal after = (refusal ≡ Includes at greatest_depth) × (after ≡ read)
IsRefused files (suc deeper) chain read at name refusal after =
    ((most_files ≤ length read) × (refusal ≡ Includes at most_files) × (after ≡ read))
    ⊎ ((length read < most_files) × (
    (files.IsUnread (Some at) name refusal × (after ≡ read))
    ⊎ (files.IsNoSource (files.base + length read) name refusal × (after ≡ read ++ name ∷ []))
    ⊎ ((source : Source) × files.Is (files.base + length read) name source × (
    (IsHeaderFault source.header refusal × (after ≡ read ++ name ∷ []))
    ⊎ ((source.header ≡ None)
    × OneStops (Loads files deeper) (IsRefused files deeper) (and_next files chain read name) (read ++ name ∷ []) source.items refusal after)
    ))
    ))
