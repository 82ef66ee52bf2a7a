-- Core formulas in which calls stand as imports behind those of the source: what is lowered where a call is met, and what the calls
-- stand for.
use Rattle.std.specs.Prelude.{ℕ, ◌+◌, ◌-◌, ◌/◌, nat_lt, max, if◌then◌else◌, List, [], ◌∷◌, ◌++◌, length, take, slice_get, Option, Some, None}
use Rattle.ms_logic_core.specs.CoreForm.{CoreForm, falsity, imported, restrict}
use Rattle.ms_logic_core.specs.Spread.{Callees, Names, callees_of, callees_of_imports, conjunction_of, named, own_names, restrictions_of, spread_under, variables_of_import}
use Rattle.ms_logic.specs.Tree.{Declaration, Predicate}
use Rattle.ms_logic.specs.Truth.{Given}
use Rattle.ms_logic_core.specs.Calls.{Calls, calling_with_all}
use Rattle.ms_lower.specs.Numbering.{Numbering, number_at, renumbered, variables_of_call}

-- the number in the spread of a variable of the answer: a global keeps its number, and of the numbers behind those of the globals
-- there are three for each
abbrev pub spread_number_of : ℕ → ℕ → ℕ
spread_number_of globals y = if nat_lt y globals then y else globals + (y - globals) / 3

-- names in which parameters stand for these variables of the answer, the first over the later ones
abbrev pub names_at : ℕ → List Declaration → List ℕ → Names
names_at globals [] ys = own_names
names_at globals (d ∷ ds) [] = own_names
names_at globals (d ∷ ds) (y ∷ ys) = named d.variable.order d.variable.name (spread_number_of globals y) (names_at globals ds ys)

-- the first number that is free in a call, which stands behind the variables of the parameters; it is no global's
abbrev pub free_at : ℕ → List Declaration → List ℕ → ℕ
free_at globals [] [] = globals
free_at globals [] (y ∷ ys) = max globals (spread_number_of globals y)
free_at globals (d ∷ ds) [] = globals
free_at globals (d ∷ ds) (y ∷ ys) = free_at globals ds ys

-- the numbers of the answer, where the first so many numbers are kept
abbrev pub plain_numbers : ℕ → ℕ → Given → Numbering
plain_numbers kept globals given = record { number = number_at kept globals; imported = λ i. variables_of_import (slice_get given.imports i) }

-- the same numbers for formulas in which calls stand as imports behind those of the source
abbrev pub calling_numbers : ℕ → ℕ → Given → Numbering
calling_numbers kept globals given = record {
  number = number_at kept globals;
  imported = λ i.
      if nat_lt i (length given.imports)
      then variables_of_import (slice_get given.imports i)
      else variables_of_call (slice_get given.predicates (i - length given.imports));
}

-- the predicates before one alone, calls of which stand as imports
abbrev pub calling_before : Given → ℕ → Callees
calling_before given p = calling_with_all (length given.imports) (callees_of_imports given.imports) 0 (take p given.predicates)

abbrev pub calling : Given → Callees
calling given = calling_with_all (length given.imports) (callees_of_imports given.imports) 0 given.predicates

-- what a call of a predicate becomes, by the variables of the answer that are named at it
abbrev pub called_at : ℕ → Given → ℕ → Option Predicate → List ℕ → CoreForm
called_at globals given p None ys = restrict falsity
called_at globals given p (Some q) ys =
    renumbered (plain_numbers globals globals given) ((callees_of given).body p (names_at globals q.parameters ys) (free_at globals q.parameters ys))

-- what the imports stand for: those of the source for themselves, and those behind them for calls
abbrev pub calls_of : ℕ → Given → Calls
calls_of globals given i ys =
    if nat_lt i (length given.imports)
    then imported i ys
    else called_at globals given (i - length given.imports) (slice_get given.predicates (i - length given.imports)) ys

-- the same, as it is lowered: its restrictions and its body, in which calls stand as imports
abbrev pub body_at : ℕ → Given → ℕ → Predicate → List ℕ → CoreForm
body_at globals given p q ys =
    renumbered (calling_numbers globals globals given)
    (conjunction_of
    (restrictions_of (calling_before given p) q.parameters (names_at globals q.parameters ys) (free_at globals q.parameters ys)
    ++ spread_under (calling_before given p) q.body (names_at globals q.parameters ys) (free_at globals q.parameters ys) ∷ []))
