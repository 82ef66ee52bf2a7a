-- Small files for worked examples. A file has a one-letter name, and what it holds stands in a table.
use Rattle.std.specs.Prelude.{◌≡◌, ℕ, ◌+◌, cond, bytes_eq, List, [], ◌∷◌, codes, Option, Some, None}
use Rattle.ms_list.specs.declared.at.At.{At}
use Rattle.ms_edge.specs.declared.refusal.Refusal.TheVariants.{FileMissing}
use Rattle.ms_logic.specs.declared.mode.Mode.TheVariants.{Ws1s}
use Rattle.ms_logic.specs.declared.source.Decl.TheVariants.{Const, Include, Goal}
use Rattle.ms_logic.specs.declared.source.Form.TheVariants.{True}
use Rattle.ms_logic.specs.declared.source.Item.{Item}
use Rattle.ms_logic.specs.declared.source.Loaded.{Loaded}
use Rattle.ms_logic.specs.declared.source.Source.{Source}
use Rattle.ms_include.specs.Include.{Files}

abbrev pub a : List ℕ
a = codes "a"

abbrev pub b : List ℕ
b = codes "b"

abbrev pub c : List ℕ
c = codes "c"

abbrev pub d : List ℕ
d = codes "d"

-- a place in the file with this number
abbrev pub at : ℕ → ℕ → At
at file place = record { file = file; place = place }

-- the declaration of a constant, known by its number
abbrev pub mark : ℕ → Item
mark n = record { at = at 0 0; decl = Const (at 0 0) (n ∷ []) [] }

-- `include "NAME";` at a place of the file with this number; the name stands 8 bytes behind it
abbrev pub include : ℕ → ℕ → List ℕ → Item
include file place name = record { at = at file place; decl = Include (at file (place + 8)) name }

-- `goal "TITLE" true;` at a place of the file with this number; the title stands 5 bytes behind it, and has one letter
abbrev pub goal : ℕ → ℕ → List ℕ → Item
goal file place title = record { at = at file place; decl = Goal (at file (place + 5)) title (record { at = at file (place + 9); form = True }) }

-- a file without header, and one that begins with `ws1s;`
abbrev pub plain : List Item → Source
plain items = record { header = None; items = items }

abbrev pub headed : ℕ → List Item → Source
headed file items = record { header = Some (at file 0, Ws1s); items = items }

abbrev pub Table : Type 0
Table = List (List ℕ × Source)

abbrev pub held_in : Table → List ℕ → Option Source
held_in [] name = None
held_in (entry ∷ more) name = cond (bytes_eq entry.0 name) (Some entry.1) (held_in more name)

-- the files of a table; any other is not there
abbrev pub files_in : Table → Files
files_in table = record {
  base = 0;
  Is = λ number name source. held_in table name ≡ Some source;
  IsUnread = λ named name refusal. (held_in table name ≡ None) × (refusal ≡ FileMissing named name);
  IsNoSource = λ number name refusal. ⊥;
}

-- in WS1S, these declarations from these files
abbrev pub gives : List Item → List (List ℕ) → Loaded
gives items files = record { mode = Ws1s; items = items; files = files }
