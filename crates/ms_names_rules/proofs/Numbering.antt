-- The typed tree of an expression is well numbered, where its scope is and its imports and exports stand in the tables.
use Rattle.std.proofs.Common.{◌≡◌, ℕ, ◌+◌, ◌<◌, Bool, true, false, if◌then◌else◌, List, [], ◌∷◌, ◌++◌, length, map, Option, Some, None, refl, sym, subst, ap, ◌∙◌, arith, take, ◌==◌}
use Rattle.std.specs.Prelude.{filter, slice_get}
use Rattle.std.specs.Option.{option_and_then}
use Rattle.ms_logic.specs.declared.checked.ExportUse.{ExportUse}
use Rattle.ms_logic.specs.declared.checked.MapPair.{MapPair}
use Rattle.ms_logic.specs.declared.mode.Order.{Order}
use Rattle.ms_logic.specs.declared.mode.Order.TheVariants.{Zero, One, Two}
use Rattle.ms_logic.specs.declared.mode.Rel.{Rel}
use Rattle.ms_logic.specs.declared.mode.Rel.TheVariants.{Equal, Differs, Less, AtMost, Greater, AtLeast, Member, NotMember, Sub}
use Rattle.ms_logic.specs.declared.source.Rename.{Rename}
use Rattle.ms_logic.specs.Assignment.{Variable}
use Rattle.ms_logic.specs.FiniteSet.{IsRising}
use Rattle.ms_logic.specs.Tree as tree
use Rattle.ms_logic.specs.Tree.{Term, SetTerm, Form, Forms, Argument, truth_argument, number_argument, set_argument, Arguments}
use Rattle.ms_names_rules.specs.declared.meaning.Meaning.{Meaning}
use Rattle.ms_names_rules.specs.declared.meaning.Meaning.TheVariants as meaning
use Rattle.ms_names_rules.specs.Scope.{Bytes, Named, Scope, default_of, meaning_of, variables_among, count_of_parts}
use Rattle.ms_parse_grammar.specs.Tree.{Expression, Parts, no_parts, and_part}
use Rattle.ms_names_rules.specs.Before.{Before}
use Rattle.ms_names_rules.specs.Numbers.{Tables, IsNew, Sees, seeing, TermSees, SetSees, order_of_argument, orders_of_arguments, HasParameters, IsDefault, ExportSees, AreNew, seeing_all, IsNumbered, IsNumberedRestriction, IsNumberedArgument, AreNumberedArguments, AreNumbered}
use Rattle.ms_logic.specs.Lists.{Each}
use Rattle.ms_names_rules.specs.Occurrence.{Occurrence}
use Rattle.ms_names_rules.specs.Order.{parameters_of}
use Rattle.ms_names_rules.specs.Reads.{free_variables}
use Rattle.ms_names_rules.specs.Typed.{both, default_restriction, formula_in, number_in, set_in, numbers_of_parts, of_order, related_member, related_numbers, related_sets, typed_call, typed_name, typed_relation, typed_shift, variable_argument, argument_behind, argument_for, as_many, formula_of_two, joined_formula, set_of_two, typed_binary, typed_prefix}
use Rattle.ms_names_rules.specs.Uses.{export_at, import_at, pair_of, pairs_of}
use Rattle.ms_names_rules.proofs.Fitting.{EntryFits, Falls, Fits, If, IsBelow, MeaningFits, each-append, if-one, meaning-fits, seeing_parts, if-test, if-weaker, new-parts}
use Rattle.ms_names_rules.proofs.Behind.{arguments-numbered-behind, new-behind, orders-behind, seeing-behind, taken-orders}
use Rattle.ms_parse_grammar.specs.declared.operator.Junction.{Junction}
use Rattle.ms_parse_grammar.specs.declared.operator.Binary.TheVariants.{Difference, Equivalence, Implication, Intersection, Relation, Union}
use Rattle.ms_parse_grammar.specs.declared.operator.Prefix.TheVariants.{Maximum, Minimum, Negation}
use Rattle.ms_list.specs.declared.at.At.{At}
use Rattle.ms_parse_grammar.specs.declared.operator.Junction.TheVariants.{Conjunction, Disjunction}
use Rattle.ms_parse_grammar.specs.declared.operator.Binary.{Binary}
use Rattle.ms_parse_grammar.specs.declared.operator.Prefix.{Prefix}
use Rattle.std.proofs.lemmas.List.{take_all}
use Rattle.std.proofs.lemmas.Bool.Decides.{nat_tests}

-- a list stands in another from a place on
abbrev pub Stand : {A : Type 0} → List A → ℕ → List A → Type 0
Stand all n [] = Unit {0}
Stand all n (x ∷ xs) = (slice_get all n ≡ Some x) × Stand all (n + 1) xs

-- the import or the export of an occurrence stands in the tables under its number
abbrev pub UsesStand : Tables → Occurrence → Type 0
UsesStand tables o = Stand tables.imports o.before.imports (import_at o) × Stand tables.exports o.before.exports (export_at o)

-- options

pub if-two : {A B C : Type 0} (P : A → Type 0) (Q : B → Type 0) (R : C → Type 0) (make : A → B → C) (a : Option A) (b : Option B) →
    ((x : A) (y : B) → P x → Q y → R (make x y)) → If P a → If Q b → If R (both make a b)
if-two P Q R make None b made h k = tt
if-two P Q R make (Some a) None made h k = tt
if-two P Q R make (Some a) (Some b) made h k = made a b h k

if-both : {A : Type 0} (P Q R : A → Type 0) (a : Option A) → ((x : A) → P x → Q x → R x) → If P a → If Q a → If R a
if-both P Q R None made h k = tt
if-both P Q R (Some a) made h k = made a h k

-- arguments by their orders

pub formula-numbered : (tables : Tables) (bound : ℕ) (seen : List Variable) (a : Option Argument) →
    If (IsNumberedArgument tables bound seen) a → If (IsNumbered tables bound seen) (formula_in a)
formula-numbered tables bound seen None h = tt
formula-numbered tables bound seen (Some (truth_argument f)) h = h
formula-numbered tables bound seen (Some (number_argument t)) h = tt
formula-numbered tables bound seen (Some (set_argument s)) h = tt

pub number-sees : (tables : Tables) (bound : ℕ) (seen : List Variable) (a : Option Argument) →
    If (IsNumberedArgument tables bound seen) a → If (TermSees seen) (number_in a)
number-sees tables bound seen None h = tt
number-sees tables bound seen (Some (truth_argument f)) h = tt
number-sees tables bound seen (Some (number_argument t)) h = h
number-sees tables bound seen (Some (set_argument s)) h = tt

pub set-sees : (tables : Tables) (bound : ℕ) (seen : List Variable) (a : Option Argument) →
    If (IsNumberedArgument tables bound seen) a → If (SetSees seen) (set_in a)
set-sees tables bound seen None h = tt
set-sees tables bound seen (Some (truth_argument f)) h = tt
set-sees tables bound seen (Some (number_argument t)) h = tt
set-sees tables bound seen (Some (set_argument s)) h = h

-- an argument of an order has it
abbrev pub IsOf : Tables → ℕ → List Variable → Order → Argument → Type 0
IsOf tables bound seen o a = IsNumberedArgument tables bound seen a × (order_of_argument a ≡ o)

pub order-numbered : (tables : Tables) (bound : ℕ) (seen : List Variable) (o : Order) (a : Option Argument) →
    If (IsNumberedArgument tables bound seen) a → If (IsOf tables bound seen o) (option_and_then (of_order o) a)
order-numbered tables bound seen o None h = tt
order-numbered tables bound seen Zero (Some (truth_argument f)) h = (h, refl)
order-numbered tables bound seen Zero (Some (number_argument t)) h = tt
order-numbered tables bound seen Zero (Some (set_argument s)) h = tt
order-numbered tables bound seen One (Some (truth_argument f)) h = tt
order-numbered tables bound seen One (Some (number_argument t)) h = (h, refl)
order-numbered tables bound seen One (Some (set_argument s)) h = tt
order-numbered tables bound seen Two (Some (truth_argument f)) h = tt
order-numbered tables bound seen Two (Some (number_argument t)) h = tt
order-numbered tables bound seen Two (Some (set_argument s)) h = (h, refl)

-- names, relations and imports

variable-numbered : (tables : Tables) (bound : ℕ) (seen : List Variable) (x : ℕ) (o : Order) → Sees seen x o →
    IsNumberedArgument tables bound seen (variable_argument x o)
variable-numbered tables bound seen x Zero h = h
variable-numbered tables bound seen x One h = h
variable-numbered tables bound seen x Two h = h

pub name-numbered : (tables : Tables) (bound : ℕ) (seen : List Variable) (m : Option Meaning) → If (MeaningFits tables bound seen) m →
    If (IsNumberedArgument tables bound seen) (typed_name m)
name-numbered tables bound seen None h = tt
name-numbered tables bound seen (Some (meaning.Variable x o)) h = variable-numbered tables bound seen x o h
name-numbered tables bound seen (Some (meaning.Constant value)) h = tt
name-numbered tables bound seen (Some (meaning.Predicate p [])) h = (h, tt)
name-numbered tables bound seen (Some (meaning.Predicate p (o ∷ parameters))) h = tt

-- arguments as many as parameters, and of their orders
abbrev pub AreFor : Tables → ℕ → List Variable → List Order → Arguments → Type 0
AreFor tables bound seen parameters given = AreNumberedArguments tables bound seen given × (orders_of_arguments given ≡ parameters)

-- an argument has the order of its parameter
abbrev pub IsFor : Tables → ℕ → List Variable → Option Order → Argument → Type 0
IsFor tables bound seen o a = IsNumberedArgument tables bound seen a × (Some (order_of_argument a) ≡ o)

pub argument-numbered : (tables : Tables) (bound : ℕ) (seen : List Variable) (o : Option Order) (a : Option Argument) →
    If (IsNumberedArgument tables bound seen) a → If (IsFor tables bound seen o) (argument_for o a)
argument-numbered tables bound seen None a h = tt
argument-numbered tables bound seen (Some o) a h =
    if-weaker (IsOf tables bound seen o) (IsFor tables bound seen (Some o)) (option_and_then (of_order o) a) (λ b k. (k.0, ap Some k.1)) (order-numbered tables bound seen o a h)

-- arguments with one more, which have the orders of the first parameters
pub more-arguments : (tables : Tables) (bound : ℕ) (seen : List Variable) (parameters : List Order) (n : ℕ) (given : Arguments) (a : Argument) →
    AreFor tables bound seen (take n parameters) given → IsFor tables bound seen (slice_get parameters n) a →
    AreFor tables bound seen (take (n + 1) parameters) (argument_behind given a)
more-arguments tables bound seen parameters n given a h k = (
  arguments-numbered-behind tables bound seen given a h.0 k.0,
  orders-behind given a ∙ (ap (λ os. os ++ order_of_argument a ∷ []) h.1 ∙ taken-orders parameters n (order_of_argument a) k.1),
)

-- what holds of arguments by the first parameters, as many as there are arguments, holds by all where they are as many
pub all-taken : (P : List Order → Arguments → Type 0) (parameters : List Order) (n : ℕ) (given : Option Arguments) → If (P (take n parameters)) given →
    If (P parameters) (as_many n parameters given)
all-taken P parameters n given h =
    if-test (P parameters) (n == length parameters) given
    (λ test.
    let counted : n ≡ length parameters = grind (arith, nat_tests) in
    subst (λ ps. If (P ps) given) (take_all n parameters (omega (arith, counted))) h)

pub call-numbered : (tables : Tables) (bound : ℕ) (seen : List Variable) (m : Option Meaning) (n : ℕ) (given : Option Arguments) →
    If (MeaningFits tables bound seen) m → If (AreFor tables bound seen (take n (parameters_of m))) given →
    If (IsNumberedArgument tables bound seen) (typed_call m (as_many n (parameters_of m) given))
call-numbered tables bound seen None n given h all = tt
call-numbered tables bound seen (Some (meaning.Variable x o)) n given h all = tt
call-numbered tables bound seen (Some (meaning.Constant value)) n given h all = tt
call-numbered tables bound seen (Some (meaning.Predicate p parameters)) n given h all =
    let P : List Order → Type 0 = λ orders. HasParameters tables bound p orders in
    if-one (AreFor tables bound seen parameters) (IsNumberedArgument tables bound seen) (λ arguments. truth_argument (tree.call p arguments)) (as_many n parameters given)
    (λ arguments fit. (subst P (sym fit.1) h, fit.0))
    (all-taken (AreFor tables bound seen) parameters n given all)

numbers-numbered : (tables : Tables) (bound : ℕ) (seen : List Variable) (r : Rel) (t u : Term) → TermSees seen t → TermSees seen u →
    If (IsNumberedArgument tables bound seen) (related_numbers r t u)
numbers-numbered tables bound seen Equal t u h k = (h, k)
numbers-numbered tables bound seen Differs t u h k = (h, k)
numbers-numbered tables bound seen Less t u h k = (h, k)
numbers-numbered tables bound seen AtMost t u h k = (h, k)
numbers-numbered tables bound seen Greater t u h k = (h, k)
numbers-numbered tables bound seen AtLeast t u h k = (h, k)
numbers-numbered tables bound seen Member t u h k = tt
numbers-numbered tables bound seen NotMember t u h k = tt
numbers-numbered tables bound seen Sub t u h k = tt

sets-numbered : (tables : Tables) (bound : ℕ) (seen : List Variable) (r : Rel) (t u : SetTerm) → SetSees seen t → SetSees seen u →
    If (IsNumberedArgument tables bound seen) (related_sets r t u)
sets-numbered tables bound seen Equal t u h k = (h, k)
sets-numbered tables bound seen Differs t u h k = (h, k)
sets-numbered tables bound seen Less t u h k = tt
sets-numbered tables bound seen AtMost t u h k = tt
sets-numbered tables bound seen Greater t u h k = tt
sets-numbered tables bound seen AtLeast t u h k = tt
sets-numbered tables bound seen Member t u h k = tt
sets-numbered tables bound seen NotMember t u h k = tt
sets-numbered tables bound seen Sub t u h k = (h, k)

member-numbered : (tables : Tables) (bound : ℕ) (seen : List Variable) (r : Rel) (t : Term) (u : SetTerm) → TermSees seen t → SetSees seen u →
    If (IsNumberedArgument tables bound seen) (related_member r t u)
member-numbered tables bound seen Equal t u h k = tt
member-numbered tables bound seen Differs t u h k = tt
member-numbered tables bound seen Less t u h k = tt
member-numbered tables bound seen AtMost t u h k = tt
member-numbered tables bound seen Greater t u h k = tt
member-numbered tables bound seen AtLeast t u h k = tt
member-numbered tables bound seen Member t u h k = (h, k)
member-numbered tables bound seen NotMember t u h k = (h, k)
member-numbered tables bound seen Sub t u h k = tt

pub relation-numbered : (tables : Tables) (bound : ℕ) (seen : List Variable) (r : Rel) (a b : Option Argument) →
    If (IsNumberedArgument tables bound seen) a → If (IsNumberedArgument tables bound seen) b →
    If (IsNumberedArgument tables bound seen) (typed_relation r a b)
relation-numbered tables bound seen r None b h k = tt
relation-numbered tables bound seen r (Some a) None h k = tt
relation-numbered tables bound seen r (Some (truth_argument f)) (Some b) h k = tt
relation-numbered tables bound seen r (Some (number_argument t)) (Some (truth_argument g)) h k = tt
relation-numbered tables bound seen r (Some (number_argument t)) (Some (number_argument u)) h k = numbers-numbered tables bound seen r t u h k
relation-numbered tables bound seen r (Some (number_argument t)) (Some (set_argument u)) h k = member-numbered tables bound seen r t u h k
relation-numbered tables bound seen r (Some (set_argument t)) (Some (truth_argument g)) h k = tt
relation-numbered tables bound seen r (Some (set_argument t)) (Some (number_argument u)) h k = tt
relation-numbered tables bound seen r (Some (set_argument t)) (Some (set_argument u)) h k = sets-numbered tables bound seen r t u h k

pub shift-numbered : (tables : Tables) (bound : ℕ) (seen : List Variable) (minus : Bool) (n : Option ℕ) (a : Option Argument) →
    If (IsNumberedArgument tables bound seen) a → If (IsNumberedArgument tables bound seen) (typed_shift minus n a)
shift-numbered tables bound seen minus None a h = tt
shift-numbered tables bound seen minus (Some n) None h = tt
shift-numbered tables bound seen minus (Some n) (Some (truth_argument f)) h = tt
shift-numbered tables bound seen true (Some n) (Some (number_argument t)) h = h
shift-numbered tables bound seen false (Some n) (Some (number_argument t)) h = h
shift-numbered tables bound seen true (Some n) (Some (set_argument s)) h = h
shift-numbered tables bound seen false (Some n) (Some (set_argument s)) h = h

-- operators

pub prefix-numbered : (tables : Tables) (bound : ℕ) (seen : List Variable) (op : Prefix) (a : Option Argument) →
    If (IsNumberedArgument tables bound seen) a → If (IsNumberedArgument tables bound seen) (typed_prefix op a)
prefix-numbered tables bound seen Negation a h =
    if-one (IsNumbered tables bound seen) (IsNumberedArgument tables bound seen) (λ f. truth_argument (tree.negation f)) (formula_in a) (λ f k. k) (formula-numbered tables bound seen a h)
prefix-numbered tables bound seen Minimum a h =
    if-one (SetSees seen) (IsNumberedArgument tables bound seen) (λ t. number_argument (tree.minimum t)) (set_in a) (λ t k. k) (set-sees tables bound seen a h)
prefix-numbered tables bound seen Maximum a h =
    if-one (SetSees seen) (IsNumberedArgument tables bound seen) (λ t. number_argument (tree.maximum t)) (set_in a) (λ t k. k) (set-sees tables bound seen a h)

formulas-numbered : (tables : Tables) (bound : ℕ) (seen : List Variable) (make : Form → Form → Form) (a c : Option Argument) →
    ((f g : Form) → IsNumbered tables bound seen f → IsNumbered tables bound seen g → IsNumbered tables bound seen (make f g)) →
    If (IsNumberedArgument tables bound seen) a → If (IsNumberedArgument tables bound seen) c → If (IsNumberedArgument tables bound seen) (formula_of_two make a c)
formulas-numbered tables bound seen make a c made h k =
    if-two (IsNumbered tables bound seen) (IsNumbered tables bound seen) (IsNumberedArgument tables bound seen) (λ f g. truth_argument (make f g)) (formula_in a) (formula_in c) made
    (formula-numbered tables bound seen a h) (formula-numbered tables bound seen c k)

sets-see : (tables : Tables) (bound : ℕ) (seen : List Variable) (make : SetTerm → SetTerm → SetTerm) (a c : Option Argument) →
    ((t u : SetTerm) → SetSees seen t → SetSees seen u → SetSees seen (make t u)) →
    If (IsNumberedArgument tables bound seen) a → If (IsNumberedArgument tables bound seen) c → If (IsNumberedArgument tables bound seen) (set_of_two make a c)
sets-see tables bound seen make a c made h k =
    if-two (SetSees seen) (SetSees seen) (IsNumberedArgument tables bound seen) (λ t u. set_argument (make t u)) (set_in a) (set_in c) made
    (set-sees tables bound seen a h) (set-sees tables bound seen c k)

pub binary-numbered : (tables : Tables) (bound : ℕ) (seen : List Variable) (op : Binary) (a c : Option Argument) →
    If (IsNumberedArgument tables bound seen) a → If (IsNumberedArgument tables bound seen) c → If (IsNumberedArgument tables bound seen) (typed_binary op a c)
binary-numbered tables bound seen Implication a c h k = formulas-numbered tables bound seen (λ f g. tree.implication f g) a c (λ f g i j. (i, j)) h k
binary-numbered tables bound seen Equivalence a c h k = formulas-numbered tables bound seen (λ f g. tree.equivalence f g) a c (λ f g i j. (i, j)) h k
binary-numbered tables bound seen (Relation r) a c h k = relation-numbered tables bound seen r a c h k
binary-numbered tables bound seen Union a c h k = sets-see tables bound seen (λ t u. tree.union t u) a c (λ t u i j. (i, j)) h k
binary-numbered tables bound seen Intersection a c h k = sets-see tables bound seen (λ t u. tree.intersection t u) a c (λ t u i j. (i, j)) h k
binary-numbered tables bound seen Difference a c h k = sets-see tables bound seen (λ t u. tree.difference t u) a c (λ t u i j. (i, j)) h k

pub joined-numbered : (tables : Tables) (bound : ℕ) (seen : List Variable) (op : Junction) (fs : Forms) → AreNumbered tables bound seen fs →
    IsNumbered tables bound seen (joined_formula op fs)
joined-numbered tables bound seen Conjunction fs h = h
joined-numbered tables bound seen Disjunction fs h = h

pair-sees : (tables : Tables) (bound : ℕ) (seen : List Variable) (n : Bytes) (m : Option Meaning) → If (MeaningFits tables bound seen) m →
    Each (λ (pair : MapPair). Sees seen pair.variable pair.order) (pair_of n m)
pair-sees tables bound seen n None h = tt
pair-sees tables bound seen n (Some (meaning.Variable x o)) h = (h, tt)
pair-sees tables bound seen n (Some (meaning.Constant value)) h = tt
pair-sees tables bound seen n (Some (meaning.Predicate p parameters)) h = tt

pub pairs-see : (tables : Tables) (bound : ℕ) (seen : List Variable) (s : Scope) (rs : List Rename) → Fits tables bound seen s →
    Each (λ (pair : MapPair). Sees seen pair.variable pair.order) (pairs_of s rs)
pairs-see tables bound seen s [] fits = tt
pairs-see tables bound seen s (r ∷ rs) fits =
    each-append (λ (pair : MapPair). Sees seen pair.variable pair.order) (pair_of r.left (meaning_of s r.right)) (pairs_of s rs)
    (pair-sees tables bound seen r.left (meaning_of s r.right) (meaning-fits tables bound seen s.names r.right fits.names)) (pairs-see tables bound seen s rs fits)

named-seen : (tables : Tables) (bound : ℕ) (seen : List Variable) (names : List (Bytes × Meaning)) → Each (EntryFits tables bound seen) names →
    Each (λ (v : Named). (o : Order) × Sees seen v.number o) (variables_among names)
named-seen tables bound seen [] h = tt
named-seen tables bound seen ((n, meaning.Variable x o) ∷ outer) h =
    each-append (λ (v : Named). (o : Order) × Sees seen v.number o) (variables_among outer) (record { number = x; order = o; name = n } ∷ [])
    (named-seen tables bound seen outer h.1) ((o, h.0), tt)
named-seen tables bound seen ((n, meaning.Constant value) ∷ outer) h = named-seen tables bound seen outer h.1
named-seen tables bound seen ((n, meaning.Predicate p parameters) ∷ outer) h = named-seen tables bound seen outer h.1

each-chosen : {A : Type 0} (P : A → Type 0) (here : Bool) (x : A) (xs : List A) → P x → Each P xs → Each P (if here then x ∷ xs else xs)
each-chosen P true x xs h k = (h, k)
each-chosen P false x xs h k = k

each-filter : {A : Type 0} (P : A → Type 0) (test : A → Bool) (xs : List A) → Each P xs → Each P (filter test xs)
each-filter P test [] h = tt
each-filter P test (x ∷ xs) h = each-chosen P (test x) x (filter test xs) h.0 (each-filter P test xs h.1)

each-numbers : (P : ℕ → Type 0) (vs : List Named) → Each (λ (v : Named). P v.number) vs → Each P (map (λ v. v.number) vs)
each-numbers P [] h = tt
each-numbers P (v ∷ vs) h = (h.0, each-numbers P vs h.1)

-- variables whose numbers rise, each below all that follow
abbrev Rises : List Named → Type 0
Rises [] = Unit {0}
Rises (v ∷ vs) = Each (λ (w : Named). v.number < w.number) vs × Rises vs

rises-behind : (vs : List Named) (v : Named) → Rises vs → Each (λ (w : Named). w.number < v.number) vs → Rises (vs ++ v ∷ [])
rises-behind [] v h below = (tt, tt)
rises-behind (w ∷ vs) v h below = (each-append (λ (u : Named). w.number < u.number) vs (v ∷ []) h.0 (below.0, tt), rises-behind vs v h.1 below.1)

named-below : (x : ℕ) (names : List (Bytes × Meaning)) → Each (IsBelow x) names → Each (λ (w : Named). w.number < x) (variables_among names)
named-below x [] h = tt
named-below x ((n, meaning.Variable y o) ∷ outer) h =
    each-append (λ (w : Named). w.number < x) (variables_among outer) (record { number = y; order = o; name = n } ∷ []) (named-below x outer h.1) (h.0, tt)
named-below x ((n, meaning.Constant value) ∷ outer) h = named-below x outer h.1
named-below x ((n, meaning.Predicate p parameters) ∷ outer) h = named-below x outer h.1

named-rises : (names : List (Bytes × Meaning)) → Falls names → Rises (variables_among names)
named-rises [] h = tt
named-rises ((n, meaning.Variable x o) ∷ outer) h =
    rises-behind (variables_among outer) (record { number = x; order = o; name = n }) (named-rises outer h.1) (named-below x outer h.0)
named-rises ((n, meaning.Constant value) ∷ outer) h = named-rises outer h
named-rises ((n, meaning.Predicate p parameters) ∷ outer) h = named-rises outer h

rises-chosen : (here : Bool) (v : Named) (vs : List Named) → Each (λ (w : Named). v.number < w.number) vs → Rises vs → Rises (if here then v ∷ vs else vs)
rises-chosen true v vs h k = (h, k)
rises-chosen false v vs h k = k

rises-filter : (test : Named → Bool) (vs : List Named) → Rises vs → Rises (filter test vs)
rises-filter test [] h = tt
rises-filter test (v ∷ vs) h =
    rises-chosen (test v) v (filter test vs) (each-filter (λ (w : Named). v.number < w.number) test vs h.0) (rises-filter test vs h.1)

rising-numbers : (vs : List Named) → Rises vs → IsRising (map (λ v. v.number) vs)
rising-numbers [] h = tt
rising-numbers (v ∷ []) h = (tt, tt)
rising-numbers (v ∷ w ∷ vs) h = (h.0.0, rising-numbers (w ∷ vs) h.1)

as-many : (vs : List Named) → length (map (λ v. v.name) vs) ≡ length (map (λ v. v.number) vs)
as-many [] = refl
as-many (v ∷ vs) = let rest = as-many vs in omega (arith, rest)

-- the free variables of a formula in a scope are seen
pub export-sees : (tables : Tables) (bound : ℕ) (seen : List Variable) (s : Scope) (b : Before) (e : Expression) (used : ExportUse) → Fits tables bound seen s →
    used.variables ≡ map (λ v. v.number) (free_variables s b e) → used.names ≡ map (λ v. v.name) (free_variables s b e) → ExportSees seen used
export-sees tables bound seen s b e used fits variables_are names_are =
    let free = free_variables s b e in (
      subst (λ xs. Each (λ x. (o : Order) × Sees seen x o) xs) (sym variables_are)
          (each-numbers (λ x. (o : Order) × Sees seen x o) free
          (each-filter (λ (v : Named). (o : Order) × Sees seen v.number o) _ (variables_among s.names) (named-seen tables bound seen s.names fits.names))),
      subst (λ xs. IsRising xs) (sym variables_are) (rising-numbers free (rises-filter _ (variables_among s.names) (named-rises s.names fits.falls))),
      ap length names_are ∙ (as-many free ∙ ap length (sym variables_are)),
    )

-- a default restriction at a variable that is seen

pub default-numbered : (tables : Tables) (bound : ℕ) (seen : List Variable) (x : ℕ) (o : Order) (d : Option ℕ) →
    If (λ p. IsDefault tables bound p o) d → Sees seen x o → IsNumberedRestriction tables bound seen (default_restriction d x)
default-numbered tables bound seen x o None h sees = tt
default-numbered tables bound seen x o (Some p) h sees = (o, sees, h)

pub default-fits : (tables : Tables) (bound : ℕ) (seen : List Variable) (s : Scope) (o : Order) → Fits tables bound seen s →
    If (λ p. IsDefault tables bound p o) (default_of s o)
default-fits tables bound seen s Zero fits = tt
default-fits tables bound seen s One fits = fits.numbers
default-fits tables bound seen s Two fits = fits.sets

-- the names of a `let` are new in a scope that is wide enough, and its body sees them with their orders
abbrev pub AreSides : Order → Parts → Arguments → Type 0
AreSides o ps sides = (x : ℕ) (inner : List Variable) → IsNew inner x →
    AreNew inner (numbers_of_parts x ps) sides × (seeing_all (numbers_of_parts x ps) sides inner ≡ seeing_parts x o ps inner)

pub no-sides : (o : Order) → AreSides o no_parts tree.no_arguments
no-sides o = λ x inner new. (tt, refl)

pub more-sides : (o : Order) (ps : Parts) (at : At) (n : Bytes) (e : Expression) (a : Argument) (sides : Arguments) (rest : AreSides o ps sides) → order_of_argument a ≡ o →
    AreSides o (and_part ps at n e) (argument_behind sides a)
more-sides o ps at n e a sides rest is = λ x inner new.
    let y = x + count_of_parts ps in
    let xs = numbers_of_parts x ps in
    let before = rest x inner new in
    let wide : IsNew (seeing_all xs sides inner) y = subst (λ seen. IsNew seen y) (sym before.1) (new-parts x y o ps inner new (omega arith)) in (
      new-behind inner xs sides y a before.0 wide,
      seeing-behind inner xs sides y a before.0 ∙ (ap (λ p. seeing y p (seeing_all xs sides inner)) is ∙ ap (seeing y o) before.1),
    )
