-- Environments, trees and predicates for worked examples.
use Rattle.std.specs.Prelude.{ℕ, ◌==◌, Bool, true, false, if◌then◌else◌, List, [], ◌∷◌, codes, Option, Some, None}
use Rattle.ms_list.specs.declared.at.At.{At}
use Rattle.ms_logic.specs.declared.checked.Checked.{Checked}
use Rattle.ms_logic.specs.declared.checked.Placed.{Placed}
use Rattle.ms_logic.specs.declared.formula.Formula.{Formula}
use Rattle.ms_logic.specs.declared.formula.Formula.TheVariants as code
use Rattle.ms_logic.specs.declared.mode.Mode.{Mode}
use Rattle.ms_logic.specs.declared.mode.Mode.TheVariants.{Ws1s}
use Rattle.ms_logic.specs.declared.mode.Order.{Order}
use Rattle.ms_logic.specs.declared.mode.Order.TheVariants.{Zero, One, Two}
use Rattle.ms_logic.specs.declared.mode.Quant.TheVariants.{Ex, All}
use Rattle.ms_logic.specs.declared.mode.Rel.TheVariants.{Equal, Differs, Less, AtMost, Greater, AtLeast, Sub}
use Rattle.ms_logic.specs.declared.assignment.Value.{Value}
use Rattle.ms_logic.specs.declared.assignment.Value.TheVariants.{Truth, Number, Set}
use Rattle.ms_logic.specs.Assignment.{Env, Variable, assign}
use Rattle.ms_logic.specs.Tree.{Term, numeral, number_variable, minus, SetTerm, set_variable, literal, Terms, no_terms, more_terms, Form, falsity, truth_variable, negation, comparison, set_comparison, membership, quantified, where_let, call, restrict, default_at, Forms, no_forms, more_forms, Restriction, unrestricted, restricted, Argument, truth_argument, number_argument, Arguments, no_arguments, more_arguments, Declaration, Predicate, truth}
use Rattle.ms_logic.specs.Truth.{Answer, answer_yes, answer_no, answer_undefined, Given}
use Rattle.ms_logic.specs.Verdict.{Problem}

-- the natural numbers, with every variable false, 0 and empty
abbrev pub naturals : Env
naturals = record { universe = None; truth = λ x. false; number = λ x. 0; set = λ x. [] }

-- the same over a string of this length
abbrev pub string : ℕ → Env
string size = record { universe = Some size; truth = λ x. false; number = λ x. 0; set = λ x. [] }

-- one variable at a value: the number x, the truth value a and the set P are the variables with the number 0
abbrev pub x_at : ℕ → Env
x_at n = assign 0 (Number n) naturals

abbrev pub x_on : ℕ → ℕ → Env
x_on n size = assign 0 (Number n) (string size)

abbrev pub a_at : Bool → Env
a_at b = assign 0 (Truth b) naturals

abbrev pub P_at : List ℕ → Env
P_at members = assign 0 (Set members) naturals

-- variables as terms and formulas

abbrev pub var_x : Term
var_x = number_variable 0

abbrev pub var_y : Term
var_y = number_variable 1

abbrev pub var_z : Term
var_z = number_variable 2

abbrev pub set_P : SetTerm
set_P = set_variable 0

abbrev pub set_Q : SetTerm
set_Q = set_variable 1

abbrev pub truth_a : Form
truth_a = truth_variable 0

abbrev pub truth_b : Form
truth_b = truth_variable 1

-- the literal of these numbers
abbrev pub numerals : List ℕ → Terms
numerals [] = no_terms
numerals (n ∷ more) = more_terms (numeral n) (numerals more)

abbrev pub listed : List ℕ → SetTerm
listed ns = literal (numerals ns)

-- atoms

abbrev pub less : Term → Term → Form
less t u = comparison Less t u

abbrev pub at_most : Term → Term → Form
at_most t u = comparison AtMost t u

abbrev pub greater : Term → Term → Form
greater t u = comparison Greater t u

abbrev pub at_least : Term → Term → Form
at_least t u = comparison AtLeast t u

abbrev pub equal : Term → Term → Form
equal t u = comparison Equal t u

abbrev pub differs : Term → Term → Form
differs t u = comparison Differs t u

abbrev pub is_in : Term → SetTerm → Form
is_in t s = membership true t s

abbrev pub not_in : Term → SetTerm → Form
not_in t s = membership false t s

abbrev pub subset : SetTerm → SetTerm → Form
subset s t = set_comparison Sub s t

abbrev pub set_equal : SetTerm → SetTerm → Form
set_equal s t = set_comparison Equal s t

-- quantifiers of the variables with the number 0, and of y

abbrev pub ex0 : Form → Form
ex0 f = quantified Ex Zero 0 unrestricted f

abbrev pub ex1 : Form → Form
ex1 f = quantified Ex One 0 unrestricted f

abbrev pub ex2 : Form → Form
ex2 f = quantified Ex Two 0 unrestricted f

abbrev pub all0 : Form → Form
all0 f = quantified All Zero 0 unrestricted f

abbrev pub all1 : Form → Form
all1 f = quantified All One 0 unrestricted f

abbrev pub ex1_where : Form → Form → Form
ex1_where d f = quantified Ex One 0 (restricted d) f

abbrev pub all1_where : Form → Form → Form
all1_where d f = quantified All One 0 (restricted d) f

abbrev pub ex1_y : Form → Form
ex1_y f = quantified Ex One 1 unrestricted f

abbrev pub one_form : Form → Forms
one_form f = more_forms f no_forms

abbrev pub both : Form → Form → Forms
both f g = more_forms f (more_forms g no_forms)

abbrev pub one_argument : Argument → Arguments
one_argument a = more_arguments a no_arguments

abbrev pub two_arguments : Argument → Argument → Arguments
two_arguments a b = more_arguments a (more_arguments b no_arguments)

-- let1 y = t in f, and let0 b = g in f
abbrev pub let_y : Term → Form → Form
let_y t f = where_let (1 ∷ []) (one_argument (number_argument t)) f

abbrev pub let_b : Form → Form → Form
let_b g f = where_let (1 ∷ []) (one_argument (truth_argument g)) f

-- a call with one argument
abbrev pub call_number : ℕ → Term → Form
call_number p t = call p (one_argument (number_argument t))

abbrev pub call_truth : ℕ → Form → Form
call_truth p f = call p (one_argument (truth_argument f))

-- a formula that is Undefined everywhere
abbrev pub undecided : Form
undecided = restrict falsity

-- no predicate and no import
abbrev pub nothing_given : Given
nothing_given = record { predicates = []; imports = [] }

-- a predicate with one parameter of order 1
abbrev pub number_predicate : ℕ → Restriction → Form → Predicate
number_predicate x d f =
    record { parameters = record { variable = record { name = x; order = One }; restriction = d } ∷ []; body = f }

-- a predicate with one parameter of order 0
abbrev pub truth_predicate : ℕ → Form → Predicate
truth_predicate x f =
    record { parameters = record { variable = record { name = x; order = Zero }; restriction = unrestricted } ∷ []; body = f }

-- pred later(var1 x) = ex1 y: x < y
abbrev pub later_given : Given
later_given = record {
  predicates =
      number_predicate 1 unrestricted (quantified Ex One 2 unrestricted (comparison Less (number_variable 1) (number_variable 2))) ∷ [];
  imports = [];
}

-- pred small(var1 x where x < 3) = x = 0
abbrev pub restricted_given : Given
restricted_given = record {
  predicates =
      number_predicate 1 (restricted (comparison Less (number_variable 1) (numeral 3))) (comparison Equal (number_variable 1) (numeral 0)) ∷ [];
  imports = [];
}

-- pred same(var0 a) = a; pred other(var0 a) = same(~a)
abbrev pub identity_given : Given
identity_given = record {
  predicates =
      truth_predicate 1 (truth_variable 1)
      ∷ truth_predicate 1 (call 0 (one_argument (truth_argument (negation (truth_variable 1)))))
      ∷ [];
  imports = [];
}

-- defaultwhere1(p) = p < 3; defaultwhere1(p) = ex1 y: p < y; defaultwhere1(p) = restrict(p = 0)
abbrev pub defaults_given : Given
defaults_given = record {
  predicates =
      number_predicate 1 unrestricted (comparison Less (number_variable 1) (numeral 3))
      ∷ number_predicate 1 unrestricted (quantified Ex One 2 (restricted (default_at 0 2)) (comparison Less (number_variable 1) (number_variable 2)))
      ∷ number_predicate 1 unrestricted (restrict (comparison Equal (number_variable 1) (numeral 0)))
      ∷ [];
  imports = [];
}

-- the answer of an automaton that has one number: Yes at 0, No at 1, and Undefined elsewhere
abbrev pub answer_by_number : List Value → Answer
answer_by_number [] = answer_undefined
answer_by_number (Truth b ∷ more) = answer_undefined
answer_by_number (Number n ∷ more) = if n == 0 then answer_yes else (if n == 1 then answer_no else answer_undefined)
answer_by_number (Set members ∷ more) = answer_undefined

abbrev pub import_given : Given
import_given = record {
  predicates = [];
  imports = record { variables = record { name = 0; order = One } ∷ []; answer = λ universe values. answer_by_number values } ∷ [];
}

abbrev pub variable : ℕ → Order → Variable
variable x o = record { name = x; order = o }

abbrev pub number_global : ℕ → Restriction → Declaration
number_global x d = record { variable = variable x One; restriction = d }

abbrev pub set_global : ℕ → Restriction → Declaration
set_global x d = record { variable = variable x Two; restriction = d }

abbrev pub just_x : List Variable
just_x = variable 0 One ∷ []

abbrev pub just_a : List Variable
just_a = variable 0 Zero ∷ []

abbrev pub set_P_and_Q : List Variable
set_P_and_Q = variable 0 Two ∷ variable 1 Two ∷ []

abbrev pub of_each_order : List Variable
of_each_order = variable 0 Zero ∷ variable 1 One ∷ variable 2 Two ∷ []

-- a source without predicates, imports and exports
abbrev pub problem : Mode → List Declaration → Forms → Problem
problem mode globals formulas = record { mode = mode; globals = globals; given = nothing_given; formulas = formulas }

-- var1 x where x = 0; x - 1 = 0
abbrev pub zero_source : Problem
zero_source =
    problem Ws1s (number_global 0 (restricted (equal var_x (numeral 0))) ∷ []) (one_form (equal (minus var_x 1) (numeral 0)))

-- pred zero(var1 x where x < 3) = x = 0; pred positive(var1 x) = ~zero(x)
abbrev pub positive_given : Given
positive_given = record {
  predicates =
      number_predicate 1 (restricted (less var_y (numeral 3))) (equal var_y (numeral 0))
      ∷ number_predicate 1 unrestricted (negation (call_number 0 var_y))
      ∷ [];
  imports = [];
}

-- defaultwhere1(p) = p < 3; pred above(var1 x where true) = ex1 y: x < y; pred first(var1 x) = x = 0. The default holds for the y
-- of the one and for the x of the other.
abbrev pub default_given : Given
default_given = record {
  predicates =
      number_predicate 1 unrestricted (less var_y (numeral 3))
      ∷ number_predicate 1 (restricted truth) (quantified Ex One 2 (restricted (default_at 0 2)) (less var_y (number_variable 2)))
      ∷ number_predicate 1 (restricted (default_at 0 1)) (equal var_y (numeral 0))
      ∷ [];
  imports = [];
}

-- pred between(var1 x where x < 3, var1 y where 0 < y) = x < y
abbrev pub between_given : Given
between_given = record {
  predicates =
      record {
        parameters =
            number_global 1 (restricted (less var_y (numeral 3)))
            ∷ number_global 2 (restricted (less (numeral 0) (number_variable 2)))
            ∷ [];
        body = less var_y (number_variable 2);
      }
      ∷ [];
  imports = [];
}

-- pred between(var1 x where x < 3, var1 y where x < y) = y < 5
abbrev pub dependent_given : Given
dependent_given = record {
  predicates =
      record {
        parameters =
            number_global 1 (restricted (less var_y (numeral 3)))
            ∷ number_global 2 (restricted (less var_y (number_variable 2)))
            ∷ [];
        body = less (number_variable 2) (numeral 5);
      }
      ∷ [];
  imports = [];
}

abbrev pub call_between : Term → Term → Form
call_between t u = call 0 (two_arguments (number_argument t) (number_argument u))

-- a formula of a source, of a goal where it has a title
abbrev pub stated : Option (List ℕ) → Formula → Placed
stated title f = record { at = record { file = 0; place = 0 }; item = 0; title = title; formula = f }

-- goal "a" false;
abbrev pub false_goal : Placed
false_goal = stated (Some (codes "a")) code.False

-- true; goal "a" false;
abbrev pub asks_twice : Checked
asks_twice = record {
  mode = Ws1s;
  globals = [];
  predicates = [];
  imports = [];
  exports = [];
  formulas = stated None code.True ∷ false_goal ∷ [];
  files = [];
}
