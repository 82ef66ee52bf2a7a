-- What the numbers in a checked source stand for: variables that are seen where they stand, predicates, imports and exports.
use Rattle.std.specs.Prelude.{◌≡◌, ℕ, ◌+◌, ◌<◌, List, [], ◌∷◌, ◌++◌, length, flat_map, map, slice_get}
use Rattle.std.specs.Option.{IsSomeAnd}
use Rattle.ms_logic.specs.declared.checked.Checked.{Checked}
use Rattle.ms_logic.specs.declared.checked.ExportUse.{ExportUse}
use Rattle.ms_logic.specs.declared.checked.ImportUse.{ImportUse}
use Rattle.ms_logic.specs.declared.checked.MapPair.{MapPair}
use Rattle.ms_logic.specs.declared.mode.Order.{Order}
use Rattle.ms_logic.specs.declared.mode.Order.TheVariants.{Zero, One, Two}
use Rattle.ms_logic.specs.Assignment.{Variable}
use Rattle.ms_logic.specs.FiniteSet.{IsRising}
use Rattle.ms_logic.specs.Tree.{Term, number_variable, numeral, plus, minus, minimum, maximum, SetTerm, set_variable, empty_set, whole, literal, pconst, union, intersection, difference, shift_up, shift_down, Terms, no_terms, more_terms, Form, truth, falsity, truth_variable, negation, conjunction, disjunction, implication, equivalence, comparison, set_comparison, membership, emptiness, quantified, where_let, call, restrict, imported, exported, default_at, Forms, no_forms, more_forms, Restriction, unrestricted, restricted, Argument, truth_argument, number_argument, set_argument, Arguments, no_arguments, more_arguments, Declaration, Predicate}
use Rattle.ms_logic.specs.View.{formula_of, globals_from, predicate_of}
use Rattle.ms_logic.specs.Lists.{Each, IsAmong}

-- the variable x of an order is seen
abbrev pub Sees : List Variable → ℕ → Order → Type 0
Sees seen x o = IsAmong seen (record { name = x; order = o })

-- the variable x is new: those that are seen have smaller numbers
abbrev pub IsNew : List Variable → ℕ → Type 0
IsNew seen x = Each (λ v. v.name < x) seen

-- with the variable x of an order
abbrev pub seeing : ℕ → Order → List Variable → List Variable
seeing x o seen = record { name = x; order = o } ∷ seen

-- the predicates of a source, with macros and default restrictions, its imports and its exports, each by its number
pub record Tables : Type 0 where
  pub predicates : List Predicate
  pub imports : List ImportUse
  pub exports : List ExportUse

-- the variables of a term are seen, with their orders
abbrev mutual
  pub TermSees : List Variable → Term → Type 0
  TermSees seen (number_variable x) = Sees seen x One
  TermSees seen (numeral n) = Unit {0}
  TermSees seen (plus t n) = TermSees seen t
  TermSees seen (minus t n) = TermSees seen t
  TermSees seen (minimum s) = SetSees seen s
  TermSees seen (maximum s) = SetSees seen s

  pub SetSees : List Variable → SetTerm → Type 0
  SetSees seen (set_variable x) = Sees seen x Two
  SetSees seen empty_set = Unit {0}
  SetSees seen whole = Unit {0}
  SetSees seen (literal ts) = TermsSee seen ts
  SetSees seen (pconst n) = Unit {0}
  SetSees seen (union s t) = SetSees seen s × SetSees seen t
  SetSees seen (intersection s t) = SetSees seen s × SetSees seen t
  SetSees seen (difference s t) = SetSees seen s × SetSees seen t
  SetSees seen (shift_up s n) = SetSees seen s
  SetSees seen (shift_down s n) = SetSees seen s

  pub TermsSee : List Variable → Terms → Type 0
  TermsSee seen no_terms = Unit {0}
  TermsSee seen (more_terms t ts) = TermSees seen t × TermsSee seen ts

abbrev pub order_of_argument : Argument → Order
order_of_argument (truth_argument f) = Zero
order_of_argument (number_argument t) = One
order_of_argument (set_argument s) = Two

abbrev pub orders_of_arguments : Arguments → List Order
orders_of_arguments no_arguments = []
orders_of_arguments (more_arguments a more) = order_of_argument a ∷ orders_of_arguments more

abbrev pub parameter_orders : Predicate → List Order
parameter_orders p = map (λ d. d.variable.order) p.parameters

-- a predicate has a number below a bound and parameters of these orders
abbrev pub HasParameters : Tables → ℕ → ℕ → List Order → Type 0
HasParameters tables bound p orders = (p < bound) × IsSomeAnd (slice_get tables.predicates p) (λ known. parameter_orders known ≡ orders)

-- a parameter of an order without a restriction
abbrev pub IsPlain : Order → Declaration → Type 0
IsPlain o d = (d.variable.order ≡ o) × (d.restriction ≡ unrestricted)

abbrev pub IsOnePlain : Order → List Declaration → Type 0
IsOnePlain o [] = ⊥
IsOnePlain o (d ∷ []) = IsPlain o d
IsOnePlain o (d ∷ e ∷ more) = ⊥

-- a default restriction for an order has a number below a bound, and one parameter, which has no restriction
abbrev pub IsDefault : Tables → ℕ → ℕ → Order → Type 0
IsDefault tables bound p o = (p < bound) × IsSomeAnd (slice_get tables.predicates p) (λ known. IsOnePlain o known.parameters)

-- a default restriction at a variable that is seen, for its order
abbrev pub IsDefaultAt : Tables → ℕ → List Variable → ℕ → ℕ → Type 0
IsDefaultAt tables bound seen p x = (o : Order) × Sees seen x o × IsDefault tables bound p o

-- the variables of an import are seen, with their orders
abbrev pub ImportSees : List Variable → ImportUse → Type 0
ImportSees seen used = Each (λ (pair : MapPair). Sees seen pair.variable pair.order) used.pairs

-- the variables of an export are seen, their numbers rise, and each has a name
abbrev pub ExportSees : List Variable → ExportUse → Type 0
ExportSees seen used =
    Each (λ x. (o : Order) × Sees seen x o) used.variables × IsRising used.variables × (length used.names ≡ length used.variables)

-- the names of a `let`, as many as its right sides, have numbers that rise above all that are seen
abbrev pub AreNew : List Variable → List ℕ → Arguments → Type 0
AreNew seen [] no_arguments = Unit {0}
AreNew seen [] (more_arguments a more) = ⊥
AreNew seen (x ∷ xs) no_arguments = ⊥
AreNew seen (x ∷ xs) (more_arguments a more) = IsNew seen x × AreNew (seeing x (order_of_argument a) seen) xs more

-- what the body of a `let` sees: its names have the orders of their right sides
abbrev pub seeing_all : List ℕ → Arguments → List Variable → List Variable
seeing_all [] sides seen = seen
seeing_all (x ∷ xs) no_arguments seen = seen
seeing_all (x ∷ xs) (more_arguments a more) seen = seeing_all xs more (seeing x (order_of_argument a) seen)

-- A formula under some variables that are seen: each variable in it is seen, with its order; each that it binds is new; and its
-- numbers of predicates, imports and exports are in the tables, those of predicates below a bound. A call has as many
-- arguments as its predicate has parameters, and of their orders.
abbrev mutual
  pub IsNumbered : Tables → ℕ → List Variable → Form → Type 0
  IsNumbered tables bound seen truth = Unit {0}
  IsNumbered tables bound seen falsity = Unit {0}
  IsNumbered tables bound seen (truth_variable x) = Sees seen x Zero
  IsNumbered tables bound seen (negation f) = IsNumbered tables bound seen f
  IsNumbered tables bound seen (conjunction fs) = AreNumbered tables bound seen fs
  IsNumbered tables bound seen (disjunction fs) = AreNumbered tables bound seen fs
  IsNumbered tables bound seen (implication f g) = IsNumbered tables bound seen f × IsNumbered tables bound seen g
  IsNumbered tables bound seen (equivalence f g) = IsNumbered tables bound seen f × IsNumbered tables bound seen g
  IsNumbered tables bound seen (comparison r t u) = TermSees seen t × TermSees seen u
  IsNumbered tables bound seen (set_comparison r s t) = SetSees seen s × SetSees seen t
  IsNumbered tables bound seen (membership positive t s) = TermSees seen t × SetSees seen s
  IsNumbered tables bound seen (emptiness s) = SetSees seen s
  -- a restriction sees its own variable
  IsNumbered tables bound seen (quantified q o x d f) =
      IsNew seen x × IsNumberedRestriction tables bound (seeing x o seen) d × IsNumbered tables bound (seeing x o seen) f
  IsNumbered tables bound seen (where_let xs sides f) =
      AreNumberedArguments tables bound seen sides × AreNew seen xs sides × IsNumbered tables bound (seeing_all xs sides seen) f
  IsNumbered tables bound seen (call p given) =
      HasParameters tables bound p (orders_of_arguments given) × AreNumberedArguments tables bound seen given
  IsNumbered tables bound seen (restrict f) = IsNumbered tables bound seen f
  IsNumbered tables bound seen (imported i) = IsSomeAnd (slice_get tables.imports i) (ImportSees seen)
  IsNumbered tables bound seen (exported i f) = IsSomeAnd (slice_get tables.exports i) (ExportSees seen) × IsNumbered tables bound seen f
  IsNumbered tables bound seen (default_at p x) = IsDefaultAt tables bound seen p x

  pub AreNumbered : Tables → ℕ → List Variable → Forms → Type 0
  AreNumbered tables bound seen no_forms = Unit {0}
  AreNumbered tables bound seen (more_forms f fs) = IsNumbered tables bound seen f × AreNumbered tables bound seen fs

  pub IsNumberedRestriction : Tables → ℕ → List Variable → Restriction → Type 0
  IsNumberedRestriction tables bound seen unrestricted = Unit {0}
  IsNumberedRestriction tables bound seen (restricted d) = IsNumbered tables bound seen d

  pub IsNumberedArgument : Tables → ℕ → List Variable → Argument → Type 0
  IsNumberedArgument tables bound seen (truth_argument f) = IsNumbered tables bound seen f
  IsNumberedArgument tables bound seen (number_argument t) = TermSees seen t
  IsNumberedArgument tables bound seen (set_argument s) = SetSees seen s

  pub AreNumberedArguments : Tables → ℕ → List Variable → Arguments → Type 0
  AreNumberedArguments tables bound seen no_arguments = Unit {0}
  AreNumberedArguments tables bound seen (more_arguments a more) =
      IsNumberedArgument tables bound seen a × AreNumberedArguments tables bound seen more

-- parameters, each new, and a body that sees them
abbrev pub AreNumberedParameters : Tables → ℕ → List Variable → List Declaration → Form → Type 0
AreNumberedParameters tables bound seen [] body = IsNumbered tables bound seen body
AreNumberedParameters tables bound seen (d ∷ ds) body =
    IsNew seen d.variable.name × IsNumberedRestriction tables bound (seeing d.variable.name d.variable.order seen) d.restriction
    × AreNumberedParameters tables bound (seeing d.variable.name d.variable.order seen) ds body

-- the predicates from a number on, each of which calls those with smaller numbers alone
abbrev pub AreNumberedPredicates : Tables → ℕ → List Variable → List Predicate → Type 0
AreNumberedPredicates tables p seen [] = Unit {0}
AreNumberedPredicates tables p seen (known ∷ more) =
    AreNumberedParameters tables p seen known.parameters known.body × AreNumberedPredicates tables (p + 1) seen more

-- the numbers of the exports in a formula, in the order of the text
abbrev mutual
  pub exports_in : Form → List ℕ
  exports_in truth = []
  exports_in falsity = []
  exports_in (truth_variable x) = []
  exports_in (negation f) = exports_in f
  exports_in (conjunction fs) = exports_in_all fs
  exports_in (disjunction fs) = exports_in_all fs
  exports_in (implication f g) = exports_in f ++ exports_in g
  exports_in (equivalence f g) = exports_in f ++ exports_in g
  exports_in (comparison r t u) = []
  exports_in (set_comparison r s t) = []
  exports_in (membership positive t s) = []
  exports_in (emptiness s) = []
  exports_in (quantified q o x d f) = exports_in_restriction d ++ exports_in f
  exports_in (where_let xs sides f) = exports_in_arguments sides ++ exports_in f
  exports_in (call p given) = exports_in_arguments given
  exports_in (restrict f) = exports_in f
  exports_in (imported i) = []
  exports_in (exported i f) = i ∷ exports_in f
  exports_in (default_at p x) = []

  pub exports_in_all : Forms → List ℕ
  exports_in_all no_forms = []
  exports_in_all (more_forms f fs) = exports_in f ++ exports_in_all fs

  pub exports_in_restriction : Restriction → List ℕ
  exports_in_restriction unrestricted = []
  exports_in_restriction (restricted d) = exports_in d

  pub exports_in_argument : Argument → List ℕ
  exports_in_argument (truth_argument f) = exports_in f
  exports_in_argument (number_argument t) = []
  exports_in_argument (set_argument s) = []

  pub exports_in_arguments : Arguments → List ℕ
  exports_in_arguments no_arguments = []
  exports_in_arguments (more_arguments a more) = exports_in_argument a ++ exports_in_arguments more

abbrev pub exports_in_parameters : List Declaration → List ℕ
exports_in_parameters [] = []
exports_in_parameters (d ∷ ds) = exports_in_restriction d.restriction ++ exports_in_parameters ds

abbrev pub exports_in_predicate : Predicate → List ℕ
exports_in_predicate p = exports_in_parameters p.parameters ++ exports_in p.body

-- the numbers from n on, one after the other, up to but without m
abbrev pub CountUp : ℕ → List ℕ → ℕ → Type 0
CountUp n [] m = n ≡ m
CountUp n (x ∷ xs) m = (x ≡ n) × CountUp (n + 1) xs m

-- the tables of a checked source
abbrev pub tables_of : Checked → Tables
tables_of checked = record { predicates = map predicate_of checked.predicates; imports = checked.imports; exports = checked.exports }

-- its globals, each by its place among them
abbrev pub globals_seen : Checked → List Variable
globals_seen checked = map (λ d. d.variable) (globals_from 0 checked.globals)

-- The numbers of a checked source. All formulas and predicates see the globals, and no other variables from outside.
pub record IsWellNumbered (checked : Checked) : Type 0 where
  pub predicates : AreNumberedPredicates (tables_of checked) 0 (globals_seen checked) (tables_of checked).predicates
  pub globals : Each (λ d. IsNumberedRestriction (tables_of checked) (length (tables_of checked).predicates) (globals_seen checked) d.restriction) (globals_from 0 checked.globals)
  pub formulas : Each (λ placed. IsNumbered (tables_of checked) (length (tables_of checked).predicates) (globals_seen checked) (formula_of placed.formula)) checked.formulas
  -- each export of the table stands in one place of one formula, in the order of the table, and none stands anywhere else
  pub exports : CountUp 0 (flat_map (λ placed. exports_in (formula_of placed.formula)) checked.formulas) (length checked.exports)
  pub no_exports_in_predicates : Each (λ p. exports_in_predicate p ≡ []) (tables_of checked).predicates
  pub no_exports_in_globals : Each (λ d. exports_in_restriction d.restriction ≡ []) (globals_from 0 checked.globals)
