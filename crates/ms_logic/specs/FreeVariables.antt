-- The free variables of a formula, through the predicates that it calls and the defaults and imports in it. A variable is
-- a number with an order.
use Rattle.std.specs.Prelude.{◌≡◌, ℕ, ◌+◌, ◌==◌, MatchBool, ◌⊎◌, ◌↔◌, List, [], ◌∷◌, map, slice_get, Option, Some, None}
use Rattle.ms_logic.specs.declared.mode.Order.{Order}
use Rattle.ms_logic.specs.declared.mode.Order.TheVariants.{Zero, One, Two}
use Rattle.ms_logic.specs.Assignment.{Env, Variable, value_at}
use Rattle.ms_logic.specs.Tree.{Term, number_variable, numeral, plus, minus, minimum, maximum, SetTerm, set_variable, empty_set, whole, literal, pconst, union, intersection, difference, shift_up, shift_down, Terms, no_terms, more_terms}
use Rattle.ms_logic.specs.Tree.{Form, truth, falsity, truth_variable, negation, conjunction, disjunction, implication, equivalence, comparison, set_comparison, membership, emptiness, quantified, where_let, call, restrict, imported, exported, default_at, Forms, no_forms, more_forms, Restriction, unrestricted, restricted, Argument, truth_argument, number_argument, set_argument, Arguments, no_arguments, more_arguments, Declaration, Predicate}
use Rattle.ms_logic.specs.Truth.{Import, Given, Yes, No}

-- the variable has this number and this order
abbrev pub IsVariable : ℕ → Order → Variable → Type 0
IsVariable x o w = (w.name ≡ x) × (w.order ≡ o)

-- the variable is one of those that get a value: the first number with the first order, the second with the second ..
abbrev pub IsBound : List ℕ → List Order → Variable → Type 0
IsBound [] orders w = ⊥
IsBound (x ∷ xs) [] w = ⊥
IsBound (x ∷ xs) (o ∷ orders) w = IsVariable x o w ⊎ IsBound xs orders w

abbrev mutual
  pub TermReads : Term → Variable → Type 0
  TermReads (number_variable x) w = IsVariable x One w
  TermReads (numeral n) w = ⊥
  TermReads (plus t n) w = TermReads t w
  TermReads (minus t n) w = TermReads t w
  TermReads (minimum s) w = SetTermReads s w
  TermReads (maximum s) w = SetTermReads s w

  pub SetTermReads : SetTerm → Variable → Type 0
  SetTermReads (set_variable x) w = IsVariable x Two w
  SetTermReads empty_set w = ⊥
  SetTermReads whole w = ⊥
  SetTermReads (literal ts) w = TermsRead ts w
  SetTermReads (pconst n) w = ⊥
  SetTermReads (union s t) w = SetTermReads s w ⊎ SetTermReads t w
  SetTermReads (intersection s t) w = SetTermReads s w ⊎ SetTermReads t w
  SetTermReads (difference s t) w = SetTermReads s w ⊎ SetTermReads t w
  SetTermReads (shift_up s n) w = SetTermReads s w
  SetTermReads (shift_down s n) w = SetTermReads s w

  pub TermsRead : Terms → Variable → Type 0
  TermsRead no_terms w = ⊥
  TermsRead (more_terms t ts) w = TermReads t w ⊎ TermsRead ts w

-- which variables the names of predicates and imports read
pub record Reads : Type 1 where
  -- a call of a predicate with arguments of these orders
  pub called : ℕ → List Order → Variable → Type 0
  -- a default restriction, by its number, at a variable
  pub default : ℕ → ℕ → Variable → Type 0
  pub imported : ℕ → Variable → Type 0

abbrev pub order_of : Argument → Order
order_of (truth_argument f) = Zero
order_of (number_argument t) = One
order_of (set_argument s) = Two

abbrev pub orders_of : Arguments → List Order
orders_of no_arguments = []
orders_of (more_arguments a more) = order_of a ∷ orders_of more

abbrev mutual
  pub FreeUnder : Reads → Form → Variable → Type 0
  FreeUnder r truth w = ⊥
  FreeUnder r falsity w = ⊥
  FreeUnder r (truth_variable x) w = IsVariable x Zero w
  FreeUnder r (negation f) w = FreeUnder r f w
  FreeUnder r (conjunction fs) w = FreeInForms r fs w
  FreeUnder r (disjunction fs) w = FreeInForms r fs w
  FreeUnder r (implication f g) w = FreeUnder r f w ⊎ FreeUnder r g w
  FreeUnder r (equivalence f g) w = FreeUnder r f w ⊎ FreeUnder r g w
  FreeUnder r (comparison rel t u) w = TermReads t w ⊎ TermReads u w
  FreeUnder r (set_comparison rel s t) w = SetTermReads s w ⊎ SetTermReads t w
  FreeUnder r (membership positive t s) w = TermReads t w ⊎ SetTermReads s w
  FreeUnder r (emptiness s) w = SetTermReads s w
  FreeUnder r (quantified q o x d f) w = (¬ IsVariable x o w) × (FreeInRestriction r d w ⊎ FreeUnder r f w)
  FreeUnder r (where_let xs right_sides f) w =
      FreeInArguments r right_sides w ⊎ ((¬ IsBound xs (orders_of right_sides) w) × FreeUnder r f w)
  FreeUnder r (call p given) w = FreeInArguments r given w ⊎ r.called p (orders_of given) w
  FreeUnder r (restrict f) w = FreeUnder r f w
  FreeUnder r (imported i) w = r.imported i w
  FreeUnder r (exported i f) w = FreeUnder r f w
  FreeUnder r (default_at p x) w = r.default p x w

  pub FreeInForms : Reads → Forms → Variable → Type 0
  FreeInForms r no_forms w = ⊥
  FreeInForms r (more_forms f fs) w = FreeUnder r f w ⊎ FreeInForms r fs w

  pub FreeInRestriction : Reads → Restriction → Variable → Type 0
  FreeInRestriction r unrestricted w = ⊥
  FreeInRestriction r (restricted d) w = FreeUnder r d w

  pub FreeInArguments : Reads → Arguments → Variable → Type 0
  FreeInArguments r no_arguments w = ⊥
  FreeInArguments r (more_arguments a more) w = FreeInArgument r a w ⊎ FreeInArguments r more w

  pub FreeInArgument : Reads → Argument → Variable → Type 0
  FreeInArgument r (truth_argument f) w = FreeUnder r f w
  FreeInArgument r (number_argument t) w = TermReads t w
  FreeInArgument r (set_argument s) w = SetTermReads s w

-- some restriction of the list reads the variable
abbrev pub FreeInRestrictions : Reads → List Declaration → Variable → Type 0
FreeInRestrictions r [] w = ⊥
FreeInRestrictions r (declared ∷ more) w = FreeInRestriction r declared.restriction w ⊎ FreeInRestrictions r more w

-- the variable is this number, with the order of some parameter
abbrev pub IsReadFor : List Declaration → ℕ → Variable → Type 0
IsReadFor [] x w = ⊥
IsReadFor (declared ∷ more) x w = IsVariable x declared.variable.order w ⊎ IsReadFor more x w

abbrev pub names_of : Predicate → List ℕ
names_of predicate = map (λ declared. declared.variable.name) predicate.parameters

abbrev pub parameter_orders_of : Predicate → List Order
parameter_orders_of predicate = map (λ declared. declared.variable.order) predicate.parameters

-- one more predicate reads what its body and its restrictions read, but for its parameters
abbrev pub reads_with_predicate : Reads → ℕ → Predicate → Reads
reads_with_predicate r number predicate = record {
  called = λ p orders w.
      MatchBool (p == number)
      ((¬ IsBound (names_of predicate) orders w) × (FreeInRestrictions r predicate.parameters w ⊎ FreeUnder r predicate.body w))
      (r.called p orders w);
  default = λ p x w.
      MatchBool (p == number)
      (IsReadFor predicate.parameters x w ⊎ ((¬ IsBound (names_of predicate) (parameter_orders_of predicate) w) × FreeUnder r predicate.body w))
      (r.default p x w);
  imported = r.imported;
}

-- the variable is one of the list
abbrev pub IsListed : List Variable → Variable → Type 0
IsListed [] w = ⊥
IsListed (v ∷ vs) w = IsVariable v.name v.order w ⊎ IsListed vs w

abbrev pub IsReadBy : Option Import → Variable → Type 0
IsReadBy None w = ⊥
IsReadBy (Some found) w = IsListed found.variables w

abbrev pub reads_of_imports : List Import → Reads
reads_of_imports imports = record {
  called = λ p orders w. ⊥;
  default = λ p x w. ⊥;
  imported = λ i w. IsReadBy (slice_get imports i) w;
}

abbrev pub reads_with_predicates : Reads → ℕ → List Predicate → Reads
reads_with_predicates r count [] = r
reads_with_predicates r count (first ∷ later) = reads_with_predicates (reads_with_predicate r count first) (count + 1) later

-- a variable is free in a formula
abbrev pub IsFree : Given → Form → Variable → Type 0
IsFree given f w = FreeUnder (reads_with_predicates (reads_of_imports given.imports) 0 given.predicates) f w

-- both give the variable the same value
abbrev pub AgreeAt : Variable → Env → Env → Type 0
AgreeAt w e f = value_at w.order w.name e ≡ value_at w.order w.name f

-- environments of one universe that agree at the free variables of a formula give it one value
abbrev pub ValueDependsOnFreeVariables : Type 0
ValueDependsOnFreeVariables =
    (given : Given) (f : Form) (e other : Env)
    → e.universe ≡ other.universe → ((w : Variable) → IsFree given f w → AgreeAt w e other)
    → (Yes given f e ↔ Yes given f other) × (No given f e ↔ No given f other)
