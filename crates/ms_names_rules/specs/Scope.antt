-- What names mean where an expression stands, and what stands before it in the text.
use Rattle.std.specs.Prelude.{ℕ, ◌+◌, Bool, false, if◌then◌else◌, List, [], ◌∷◌, ◌++◌, bytes_eq, Option, Some, None}
use Rattle.ms_logic.specs.declared.mode.Mode.{Mode}
use Rattle.ms_logic.specs.declared.mode.Order.{Order}
use Rattle.ms_logic.specs.declared.mode.Order.TheVariants.{Zero, One, Two}
use Rattle.ms_names_rules.specs.declared.meaning.Meaning.{Meaning}
use Rattle.ms_names_rules.specs.declared.meaning.Meaning.TheVariants.{Variable, Constant, Predicate}
use Rattle.ms_names_rules.specs.declared.meaning.Reading.{Reading}
use Rattle.ms_parse_grammar.specs.Tree.{Expressions, no_expressions, and_expression, Variables, no_variables, and_variable, Parts, no_parts, and_part}

abbrev pub Bytes : Type 0
Bytes = List ℕ

-- the names that are seen, the innermost first; what each predicate, macro and default restriction so far reads, the last
-- first; the numbers of the default restrictions that hold; and whether an export may stand here
pub record Scope : Type 0 where
  pub mode : Mode
  pub names : List (Bytes × Meaning)
  pub readings : List (List Reading)
  pub default_of_numbers : Option ℕ
  pub default_of_sets : Option ℕ
  pub exports_allowed : Bool

-- with one more name, which hides an outer one
abbrev pub bind : Bytes → Meaning → Scope → Scope
bind n m s = record s { names = (n, m) ∷ s.names }

-- the same where no export may stand
abbrev pub without_exports : Scope → Scope
without_exports s = record s { exports_allowed = false }

-- the default restriction of the variables of an order
abbrev pub default_of : Scope → Order → Option ℕ
default_of s Zero = None
default_of s One = s.default_of_numbers
default_of s Two = s.default_of_sets

-- with another default restriction for an order
abbrev pub with_default : Order → ℕ → Scope → Scope
with_default Zero d s = s
with_default One d s = record s { default_of_numbers = Some d }
with_default Two d s = record s { default_of_sets = Some d }

abbrev pub meaning_among : List (Bytes × Meaning) → Bytes → Option Meaning
meaning_among [] n = None
meaning_among (entry ∷ outer) n = if bytes_eq entry.0 n then Some entry.1 else meaning_among outer n

-- what a name means here, if it is declared
abbrev pub meaning_of : Scope → Bytes → Option Meaning
meaning_of s n = meaning_among s.names n

-- a variable by its number, with its name
pub record Named : Type 0 where
  pub number : ℕ
  pub order : Order
  pub name : Bytes

-- the variables among the names, each before those that were bound after it, hidden ones too
abbrev pub variables_among : List (Bytes × Meaning) → List Named
variables_among [] = []
variables_among ((n, Variable x o) ∷ outer) = variables_among outer ++ record { number = x; order = o; name = n } ∷ []
variables_among ((n, Constant value) ∷ outer) = variables_among outer
variables_among ((n, Predicate p parameters) ∷ outer) = variables_among outer

abbrev pub count : Expressions → ℕ
count no_expressions = 0
count (and_expression es e) = count es + 1

abbrev pub count_of_bounds : Variables → ℕ
count_of_bounds no_variables = 0
count_of_bounds (and_variable vs at o n d) = count_of_bounds vs + 1

abbrev pub count_of_parts : Parts → ℕ
count_of_parts no_parts = 0
count_of_parts (and_part ps at n e) = count_of_parts ps + 1

-- with the variables of a list, whose numbers go on from x
abbrev pub under_bounds : Scope → ℕ → Variables → Scope
under_bounds s x no_variables = s
under_bounds s x (and_variable vs at o n d) = bind n (Variable (x + count_of_bounds vs) o) (under_bounds s x vs)

-- with the names of a `let` of this order, whose numbers go on from x
abbrev pub under_parts : Scope → ℕ → Order → Parts → Scope
under_parts s x o no_parts = s
under_parts s x o (and_part ps at n e) = bind n (Variable (x + count_of_parts ps) o) (under_parts s x o ps)
