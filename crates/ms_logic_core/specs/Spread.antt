-- The spread of terms and formulas into core formulas. A term that is no variable becomes a new variable that is restricted
-- to be the term; a call becomes the body of its predicate.
--
-- A formula is read with names, which give each variable of the source its number in the core formula, and with a number from
-- which on all numbers are free. A new variable takes that number, and those inside it greater ones: so its number is greater
-- than those of all variables in scope. What is said of a variable depends on its number and on the numbers that are then free.
use Rattle.std.specs.Prelude.{ℕ, zero, suc, ◌+◌, ◌/◌, ◌==◌, ◌&&◌, Bool, true, false, if◌then◌else◌, List, [], ◌∷◌, ◌++◌, length, map, take, drop, slice_get, Option, Some, None}
use Rattle.std.specs.Option.{option_map}
use Rattle.ms_logic.specs.declared.mode.Order.{Order}
use Rattle.ms_logic.specs.declared.mode.Order.TheVariants.{Zero, One, Two}
use Rattle.ms_logic.specs.declared.mode.Quant.TheVariants.{Ex, All}
use Rattle.ms_logic.specs.declared.mode.Rel.{Rel}
use Rattle.ms_logic.specs.declared.mode.Rel.TheVariants.{Equal, Differs, Less, AtMost, Greater, AtLeast, Member, NotMember, Sub}
use Rattle.ms_logic_core.specs.declared.core_formula.Basic.TheVariants as Basic
use Rattle.ms_logic.specs.Assignment.{Variable}
use Rattle.ms_logic_core.specs.CoreForm as core
use Rattle.ms_logic_core.specs.CoreForm.{CoreForm, CoreRestriction, core_forms}
use Rattle.ms_logic.specs.Tree.{Term, number_variable, numeral, plus, minus, minimum, maximum, SetTerm, set_variable, empty_set, whole, literal, pconst, union, intersection, difference, shift_up, shift_down, Terms, no_terms, more_terms}
use Rattle.ms_logic.specs.Tree.{Form, truth, falsity, truth_variable, negation, conjunction, disjunction, implication, equivalence, comparison, set_comparison, membership, emptiness, quantified, where_let, call, restrict, imported, exported, default_at, Forms, no_forms, more_forms, Restriction, unrestricted, restricted, Argument, truth_argument, number_argument, set_argument, Arguments, no_arguments, more_arguments, Declaration, Predicate}
use Rattle.ms_logic.specs.Truth.{Import, Given}

-- the number in the core formula of each variable of the source, by its order and its number
abbrev pub Names : Type 0
Names = Order → ℕ → ℕ

-- each variable keeps its number
abbrev pub own_names : Names
own_names order x = x

abbrev pub is_order : Order → Order → Bool
is_order Zero Zero = true
is_order One One = true
is_order Two Two = true
is_order order other = false

-- the names, with the variable x of this order standing for y
abbrev pub named : Order → ℕ → ℕ → Names → Names
named order x y names = λ o z. if is_order order o && (z == x) then y else names o z

-- what is said of a variable: from the first number on, all numbers are free, and the second is the variable's
abbrev pub Saying : Type 0
Saying = ℕ → ℕ → CoreForm

-- a term, by what is said of the variable that is the term
abbrev pub TermSpread : Type 0
TermSpread = ℕ → Saying → CoreForm

-- a conjunction of one formula is that formula, and one of none is `true`
abbrev pub conjunction_of : List CoreForm → CoreForm
conjunction_of [] = core.truth
conjunction_of (only ∷ []) = only
conjunction_of (first ∷ second ∷ more) = core.conjunction (core_forms (first ∷ second ∷ more))

abbrev pub both_of : CoreForm → CoreForm → CoreForm
both_of f g = conjunction_of (f ∷ g ∷ [])

abbrev pub either_of : CoreForm → CoreForm → CoreForm
either_of f g = core.disjunction (core_forms (f ∷ g ∷ []))

-- something is said of a variable that is in scope
abbrev pub the_variable : ℕ → TermSpread
the_variable x free Said = Said free x

-- something is said of a new variable of this order, which is what it is restricted to be
abbrev pub new_variable : Order → Saying → TermSpread
new_variable order Is free Said =
    core.quantified Ex order free (core.restricted (Is (free + 1) free)) (Said (free + 1) free)

-- the new variable is x - n: x is y + n, or y is 0 and x is less than n
abbrev pub is_minus : ℕ → ℕ → ℕ → ℕ → CoreForm
is_minus y n free x =
    either_of (core.basic (Basic.Plus x y n))
    (both_of (core.basic (Basic.Number y 0)) (core.negation (core.quantified Ex One free core.unrestricted (core.basic (Basic.Plus x free n)))))

-- x is the one member of y
abbrev pub is_only_member : ℕ → ℕ → ℕ → CoreForm
is_only_member y free x =
    both_of (core.basic (Basic.Member x y))
    (core.quantified All One free core.unrestricted (core.implication (core.basic (Basic.Member free y)) (core.basic (Basic.Plus free x 0))))

-- each number is a member of y
abbrev pub is_whole : Saying
is_whole free y = core.quantified All One free core.unrestricted (core.basic (Basic.Member free y))

-- the first and the second half of a list, the first the longer by at most one
abbrev pub first_half : {A : Type 0} → List A → List A
first_half items = take ((length items + 1) / 2) items

abbrev pub second_half : {A : Type 0} → List A → List A
second_half items = drop ((length items + 1) / 2) items

-- the set of some elements: the union of the sets of both halves, where there is more than one. Each half has fewer elements
-- than the whole, so as many rounds as there are elements are enough.
abbrev pub set_of_elements : ℕ → List TermSpread → TermSpread
set_of_elements rounds [] = new_variable Two (λ free y. core.basic (Basic.Bits y 0))
set_of_elements rounds (only ∷ []) = new_variable Two (λ free y. only free (is_only_member y))
set_of_elements zero (first ∷ second ∷ more) = new_variable Two (λ free y. core.basic (Basic.Bits y 0))
set_of_elements (suc rounds) (first ∷ second ∷ more) =
    new_variable Two
    (λ free y.
    set_of_elements rounds (first_half (first ∷ second ∷ more)) free
    (λ free s. set_of_elements rounds (second_half (first ∷ second ∷ more)) free (λ free t. core.basic (Basic.Union y s t))))

abbrev mutual
  pub spread_number : Term → Names → TermSpread
  spread_number (number_variable x) names = the_variable (names One x)
  spread_number (numeral n) names = new_variable One (λ free y. core.basic (Basic.Number y n))
  spread_number (plus t n) names =
      new_variable One (λ free y. spread_number t names free (λ free x. core.basic (Basic.Plus y x n)))
  spread_number (minus t n) names = new_variable One (λ free y. spread_number t names free (is_minus y n))
  spread_number (minimum s) names =
      new_variable One (λ free y. spread_set s names free (λ free t. core.basic (Basic.Min y t)))
  spread_number (maximum s) names =
      new_variable One (λ free y. spread_set s names free (λ free t. core.basic (Basic.Max y t)))

  pub spread_set : SetTerm → Names → TermSpread
  spread_set (set_variable x) names = the_variable (names Two x)
  spread_set empty_set names = new_variable Two (λ free y. core.basic (Basic.Bits y 0))
  spread_set whole names = new_variable Two is_whole
  spread_set (literal ts) names = set_of_elements (length (spread_elements ts names)) (spread_elements ts names)
  spread_set (pconst n) names = new_variable Two (λ free y. core.basic (Basic.Bits y n))
  spread_set (union s t) names =
      new_variable Two (λ free y. spread_set s names free (λ free u. spread_set t names free (λ free v. core.basic (Basic.Union y u v))))
  spread_set (intersection s t) names =
      new_variable Two (λ free y. spread_set s names free (λ free u. spread_set t names free (λ free v. core.basic (Basic.Inter y u v))))
  spread_set (difference s t) names =
      new_variable Two (λ free y. spread_set s names free (λ free u. spread_set t names free (λ free v. core.basic (Basic.Diff y u v))))
  spread_set (shift_up s n) names =
      new_variable Two (λ free y. spread_set s names free (λ free t. core.basic (Basic.Up y t n)))
  spread_set (shift_down s n) names =
      new_variable Two (λ free y. spread_set s names free (λ free t. core.basic (Basic.Down y t n)))

  pub spread_elements : Terms → Names → List TermSpread
  spread_elements no_terms names = []
  spread_elements (more_terms t ts) names = spread_number t names ∷ spread_elements ts names

-- a relation between two numbers that are variables
abbrev pub numbers_relate : Rel → ℕ → ℕ → CoreForm
numbers_relate Equal x y = core.basic (Basic.Plus x y 0)
numbers_relate Differs x y = core.negation (core.basic (Basic.Plus x y 0))
numbers_relate Less x y = core.basic (Basic.Less x y)
numbers_relate AtLeast x y = core.negation (core.basic (Basic.Less x y))
numbers_relate Greater x y = core.basic (Basic.Less y x)
numbers_relate AtMost x y = core.negation (core.basic (Basic.Less y x))
numbers_relate Member x y = core.falsity
numbers_relate NotMember x y = core.falsity
numbers_relate Sub x y = core.falsity

-- a relation between two sets that are variables
abbrev pub sets_relate : Rel → ℕ → ℕ → CoreForm
sets_relate Equal s t = core.basic (Basic.Union s t t)
sets_relate Differs s t = core.negation (core.basic (Basic.Union s t t))
sets_relate Sub s t = core.basic (Basic.Sub s t)
sets_relate Less s t = core.falsity
sets_relate AtLeast s t = core.falsity
sets_relate Greater s t = core.falsity
sets_relate AtMost s t = core.falsity
sets_relate Member s t = core.falsity
sets_relate NotMember s t = core.falsity

-- `in`, or where it is not positive `notin`, between variables
abbrev pub is_member_or_not : Bool → ℕ → ℕ → CoreForm
is_member_or_not true x s = core.basic (Basic.Member x s)
is_member_or_not false x s = core.negation (core.basic (Basic.Member x s))

-- the variable that a formula is, if it is one
abbrev pub variable_of_form : Form → Option ℕ
variable_of_form (truth_variable x) = Some x
variable_of_form f = None

-- something is said of the truth value of a formula: of the variable that it is, or of a new one that is restricted to be
-- true where the formula is Yes and false where it is No
abbrev pub truth_value : Option ℕ → (ℕ → CoreForm) → TermSpread
truth_value (Some x) f free Said = Said free x
truth_value None f free Said =
    core.quantified Ex Zero free core.unrestricted
    (both_of (core.restrict (core.equivalence (core.basic (Basic.Truth free)) (f (free + 1)))) (Said (free + 1) free))

-- what the names of predicates and imports stand for
pub record Callees : Type 0 where
  -- the numbers of a predicate's parameters
  pub parameters : ℕ → List ℕ
  -- its restrictions and its body, read with names in which the parameters have theirs
  pub body : ℕ → Names → ℕ → CoreForm
  -- a default restriction, by its number, at a variable
  pub default : ℕ → ℕ → Names → ℕ → CoreForm
  -- the variables of an import
  pub imported : ℕ → List Variable

-- the names, with the first of some variables standing for y
abbrev pub first_named : Order → List ℕ → ℕ → Names → Names
first_named order [] y names = names
first_named order (x ∷ xs) y names = named order x y names

abbrev pub after_first : List ℕ → List ℕ
after_first [] = []
after_first (x ∷ xs) = xs

-- the numbers and sets among the arguments, which are read with these names, are put in place of the variables xs; something is
-- then said with inner names in which the variables have theirs
abbrev pub numbers_and_sets : List ℕ → Arguments → Names → Names → ℕ → (Names → ℕ → CoreForm) → CoreForm
numbers_and_sets xs no_arguments names inner free Said = Said inner free
numbers_and_sets xs (more_arguments (truth_argument f) more) names inner free Said =
    numbers_and_sets (after_first xs) more names inner free Said
numbers_and_sets xs (more_arguments (number_argument t) more) names inner free Said =
    spread_number t names free (λ free y. numbers_and_sets (after_first xs) more names inner free (λ inner free. Said (first_named One xs y inner) free))
numbers_and_sets xs (more_arguments (set_argument s) more) names inner free Said =
    spread_set s names free (λ free y. numbers_and_sets (after_first xs) more names inner free (λ inner free. Said (first_named Two xs y inner) free))

abbrev mutual
  pub spread_under : Callees → Form → Names → ℕ → CoreForm
  spread_under c truth names free = core.truth
  spread_under c falsity names free = core.falsity
  spread_under c (truth_variable x) names free = core.basic (Basic.Truth (names Zero x))
  spread_under c (negation f) names free = core.negation (spread_under c f names free)
  spread_under c (conjunction fs) names free = conjunction_of (spread_each c fs names free)
  spread_under c (disjunction fs) names free = core.disjunction (core_forms (spread_each c fs names free))
  spread_under c (implication f g) names free = core.implication (spread_under c f names free) (spread_under c g names free)
  spread_under c (equivalence f g) names free = core.equivalence (spread_under c f names free) (spread_under c g names free)
  spread_under c (comparison r t u) names free =
      spread_number t names free (λ free x. spread_number u names free (λ free y. numbers_relate r x y))
  spread_under c (set_comparison r s t) names free =
      spread_set s names free (λ free x. spread_set t names free (λ free y. sets_relate r x y))
  spread_under c (membership positive t s) names free =
      spread_number t names free (λ free x. spread_set s names free (λ free y. is_member_or_not positive x y))
  spread_under c (emptiness s) names free = spread_set s names free (λ free x. core.basic (Basic.Bits x 0))
  spread_under c (quantified q o x d f) names free =
      core.quantified q o free (spread_restriction c d (named o x free names) (free + 1)) (spread_under c f (named o x free names) (free + 1))
  spread_under c (where_let xs right_sides f) names free =
      numbers_and_sets xs right_sides names names free (λ inner free.
      truth_values c xs right_sides names inner free (λ inner free. spread_under c f inner free))
  spread_under c (call p given) names free =
      numbers_and_sets (c.parameters p) given names names free (λ inner free.
      truth_values c (c.parameters p) given names inner free (λ inner free. c.body p inner free))
  spread_under c (restrict f) names free = core.restrict (spread_under c f names free)
  spread_under c (imported i) names free = core.imported i (map (λ v. names v.order v.name) (c.imported i))
  spread_under c (exported i f) names free = spread_under c f names free
  spread_under c (default_at p x) names free = c.default p x names free

  pub spread_each : Callees → Forms → Names → ℕ → List CoreForm
  spread_each c no_forms names free = []
  spread_each c (more_forms f fs) names free = spread_under c f names free ∷ spread_each c fs names free

  pub spread_restriction : Callees → Restriction → Names → ℕ → CoreRestriction
  spread_restriction c unrestricted names free = core.unrestricted
  spread_restriction c (restricted d) names free = core.restricted (spread_under c d names free)

  -- the truth values among the arguments, likewise
  pub truth_values : Callees → List ℕ → Arguments → Names → Names → ℕ → (Names → ℕ → CoreForm) → CoreForm
  truth_values c xs no_arguments names inner free Said = Said inner free
  truth_values c xs (more_arguments a more) names inner free Said =
      truth_value_at c xs a names free (λ name free. truth_values c (after_first xs) more names inner free (λ inner free. Said (name inner) free))

  -- one of them, with what it adds to the inner names; an argument of another order adds nothing
  pub truth_value_at : Callees → List ℕ → Argument → Names → ℕ → ((Names → Names) → ℕ → CoreForm) → CoreForm
  truth_value_at c xs (truth_argument f) names free Said =
      truth_value (option_map (names Zero) (variable_of_form f)) (spread_under c f names) free (λ free y. Said (first_named Zero xs y) free)
  truth_value_at c xs (number_argument t) names free Said = Said (λ inner. inner) free
  truth_value_at c xs (set_argument s) names free Said = Said (λ inner. inner) free

-- `restrict` of a restriction, if there is one, in front of others
abbrev pub restriction_before : Callees → Restriction → Names → ℕ → List CoreForm → List CoreForm
restriction_before c unrestricted names free others = others
restriction_before c (restricted d) names free others = core.restrict (spread_under c d names free) ∷ others

-- `restrict` of each restriction of the list
abbrev pub restrictions_of : Callees → List Declaration → Names → ℕ → List CoreForm
restrictions_of c [] names free = []
restrictions_of c (declared ∷ more) names free = restriction_before c declared.restriction names free (restrictions_of c more names free)

-- the names inside a default restriction at x: x stands in the place of its parameter
abbrev pub default_names : List Declaration → ℕ → Names → Names
default_names [] x names = names
default_names (declared ∷ more) x names =
    named declared.variable.order declared.variable.name (names declared.variable.order x) (default_names more x names)

-- one more predicate, by its number, whose restrictions and body are read with the callees so far
abbrev pub callees_with : Callees → ℕ → Predicate → Callees
callees_with c number predicate = record {
  parameters = λ p. if p == number then map (λ declared. declared.variable.name) predicate.parameters else c.parameters p;
  body = λ p.
      if p == number
      then (λ names free. conjunction_of (restrictions_of c predicate.parameters names free ++ spread_under c predicate.body names free ∷ []))
      else c.body p;
  default = λ p.
      if p == number then (λ x names free. spread_under c predicate.body (default_names predicate.parameters x names) free) else c.default p;
  imported = c.imported;
}

abbrev pub variables_of_import : Option Import → List Variable
variables_of_import None = []
variables_of_import (Some found) = found.variables

-- the imports alone: a predicate that is not there is nowhere Yes or No
abbrev pub callees_of_imports : List Import → Callees
callees_of_imports imports = record {
  parameters = λ p. [];
  body = λ p names free. core.restrict core.falsity;
  default = λ p x names free. core.restrict core.falsity;
  imported = λ i. variables_of_import (slice_get imports i);
}

-- the callees with these predicates, whose numbers go on from a count
abbrev pub callees_with_all : Callees → ℕ → List Predicate → Callees
callees_with_all c count [] = c
callees_with_all c count (first ∷ later) = callees_with_all (callees_with c count first) (count + 1) later

abbrev pub callees_of : Given → Callees
callees_of given = callees_with_all (callees_of_imports given.imports) 0 given.predicates

-- the core formula of a formula
abbrev pub spread : Given → Form → Names → ℕ → CoreForm
spread given f names free = spread_under (callees_of given) f names free
