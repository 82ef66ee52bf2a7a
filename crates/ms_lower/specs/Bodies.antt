-- What is lowered where a call is met, over the tables of a source.
use Rattle.std.specs.Prelude.{ℕ, List, [], ◌∷◌, ◌++◌, length, map, slice_get, take, Option, Some, None}
use Rattle.ms_logic.specs.declared.checked.Param.{Param}
use Rattle.ms_logic.specs.declared.checked.Predicate as code
use Rattle.ms_logic_core.specs.CoreForm.{CoreForm, falsity, restrict}
use Rattle.ms_logic_core.specs.Spread.{Callees, conjunction_of, restrictions_of, spread_under}
use Rattle.ms_logic.specs.View.{declaration_of, formula_of, predicate_of}
use Rattle.ms_logic_core.specs.Calls.{calling_with_all}
use Rattle.ms_lower.specs.declared.scope.Named.{Named}
use Rattle.ms_lower.specs.declared.tables.Tables.{Tables}
use Rattle.ms_lower.specs.Callees.{callable, callees_of_uses}
use Rattle.ms_lower.specs.Calling.{free_at, names_at, spread_number_of}
use Rattle.ms_lower.specs.Numbering.{numbering_of, renumbered}

-- a parameter, and parameters, with the numbers in the spread of variables of the answer

abbrev pub one_named : ℕ → Param → ℕ → Named
one_named globals p y = record { order = p.order; variable = p.variable; name = spread_number_of globals y }

abbrev pub named_at : ℕ → List Param → List ℕ → List Named
named_at globals [] ys = []
named_at globals (p ∷ ps) [] = []
named_at globals (p ∷ ps) (y ∷ ys) = one_named globals p y ∷ named_at globals ps ys

-- what the predicates before one stand for
abbrev pub callees_before : Tables → ℕ → Callees
callees_before tables p = calling_with_all (length tables.imports.now) (callees_of_uses tables.imports.now) 0 (map predicate_of (take p (callable tables)))

abbrev pub body_in : Tables → ℕ → Option code.Predicate → List ℕ → CoreForm
body_in tables p None ys = restrict falsity
body_in tables p (Some known) ys =
    renumbered (numbering_of tables)
    (conjunction_of
    (restrictions_of (callees_before tables p) (map declaration_of known.params) (names_at tables.globals (map declaration_of known.params) ys) (free_at tables.globals (map declaration_of known.params) ys)
    ++ spread_under (callees_before tables p) (formula_of known.body) (names_at tables.globals (map declaration_of known.params) ys) (free_at tables.globals (map declaration_of known.params) ys) ∷ []))

-- a call of the predicate with a number
abbrev pub called_in : Tables → ℕ → List ℕ → CoreForm
called_in tables p ys = body_in tables p (slice_get (callable tables) p) ys
