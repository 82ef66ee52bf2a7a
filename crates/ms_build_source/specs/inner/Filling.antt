-- That filling in what calls of a source stand for gives the spread.
use Rattle.std.specs.Prelude.{◌≡◌, ℕ, ◌<◌, ◌≤◌, List, length, slice_get, Some}
use Rattle.ms_logic.specs.declared.mode.Order.{Order}
use Rattle.ms_logic.specs.Assignment.{Variable}
use Rattle.ms_logic.specs.FreeVariables.{IsFree, IsListed}
use Rattle.ms_logic_core.specs.Spread.{Names, spread, spread_under, variables_of_import}
use Rattle.ms_logic.specs.Tree.{Form, Predicate}
use Rattle.ms_logic.specs.Truth.{Given}
use Rattle.ms_names_rules.specs.Numbers.{AreNumberedPredicates, IsNumbered, Tables}
use Rattle.ms_logic_core.specs.Calls.{filled}
use Rattle.ms_lower.specs.Calling.{body_at, called_at, calling, calling_numbers, calls_of, plain_numbers}
use Rattle.ms_lower.specs.Numbering.{renumbered, variables_of_use}

-- The predicates of a source with so many globals, which see the globals alone: each number below that of globals is that of one of
-- these, and each of these has such a number. Its imports have the variables that the table says.
pub record IsSource (given : Given) (tables : Tables) (globals : ℕ) (seen : List Variable) : Type 0 where
  pub predicates_are : tables.predicates ≡ given.predicates
  pub imports_are : length tables.imports ≡ length given.imports
  pub variables_are : (i : ℕ) → variables_of_import (slice_get given.imports i) ≡ variables_of_use (slice_get tables.imports i)
  pub predicates : AreNumberedPredicates tables 0 seen tables.predicates
  pub all : (x : ℕ) → x < globals → (o : Order) × IsListed seen (record { name = x; order = o })
  pub within : (w : Variable) → IsListed seen w → w.name < globals

-- a global that is free in the formula keeps its number in the spread and in the answer
abbrev pub GlobalsAreKept : ℕ → ℕ → Given → Form → Names → Type 0
GlobalsAreKept kept globals given f names =
    (w : Variable) → IsFree given f w → w.name < globals → (names w.order w.name ≡ w.name) × (w.name < kept)

-- a formula in which calls stand as imports becomes, with what they stand for in their places, the spread of the formula
abbrev pub SpreadsAreFilled : Type 0
SpreadsAreFilled =
    (given : Given) (tables : Tables) (globals : ℕ) (globals_seen : List Variable) → IsSource given tables globals globals_seen
    → (kept : ℕ) (seen : List Variable) (f : Form) (names : Names) (free : ℕ)
    → kept ≤ globals → kept ≤ free → IsNumbered tables (length tables.predicates) seen f
    → ((v : Variable) → IsListed globals_seen v → IsListed seen v) → GlobalsAreKept kept globals given f names
    → filled (calls_of globals given) (renumbered (calling_numbers kept globals given) (spread_under (calling given) f names free))
    ≡ renumbered (plain_numbers kept globals given) (spread given f names free)

-- so does the body of a predicate
abbrev pub BodiesAreFilled : Type 0
BodiesAreFilled =
    (given : Given) (tables : Tables) (globals : ℕ) (globals_seen : List Variable) → IsSource given tables globals globals_seen
    → (p : ℕ) (q : Predicate) (ys : List ℕ) → slice_get given.predicates p ≡ Some q
    → filled (calls_of globals given) (body_at globals given p q ys) ≡ called_at globals given p (Some q) ys
