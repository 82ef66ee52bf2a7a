-- Terms and formulas of the language as mathematical trees. Variables, predicates, imports and exports go by
-- their numbers.
use Rattle.std.specs.Prelude.{ℕ, Bool, List}
use Rattle.ms_logic.specs.declared.mode.Order.{Order}
use Rattle.ms_logic.specs.declared.mode.Quant.{Quant}
use Rattle.ms_logic.specs.declared.mode.Rel.{Rel}
use Rattle.ms_logic.specs.Assignment.{Variable}

mutual
  -- a term of order 1, for a number
  pub data Term : Type 0 where
    number_variable : (x : ℕ) → Term
    numeral : (n : ℕ) → Term
    plus : (t : Term) (n : ℕ) → Term
    minus : (t : Term) (n : ℕ) → Term
    minimum : (s : SetTerm) → Term
    maximum : (s : SetTerm) → Term

  -- a term of order 2, for a set of numbers
  pub data SetTerm : Type 0 where
    set_variable : (x : ℕ) → SetTerm
    empty_set : SetTerm
    -- all positions of the string
    whole : SetTerm
    literal : (ts : Terms) → SetTerm
    -- the places of the one bits of n
    pconst : (n : ℕ) → SetTerm
    union : (s t : SetTerm) → SetTerm
    intersection : (s t : SetTerm) → SetTerm
    difference : (s t : SetTerm) → SetTerm
    shift_up : (s : SetTerm) (n : ℕ) → SetTerm
    shift_down : (s : SetTerm) (n : ℕ) → SetTerm

  pub data Terms : Type 0 where
    no_terms : Terms
    more_terms : (t : Term) (ts : Terms) → Terms

mutual
  pub data Form : Type 0 where
    truth : Form
    falsity : Form
    truth_variable : (x : ℕ) → Form
    negation : (f : Form) → Form
    conjunction : (fs : Forms) → Form
    disjunction : (fs : Forms) → Form
    implication : (f g : Form) → Form
    equivalence : (f g : Form) → Form
    comparison : (r : Rel) (t u : Term) → Form
    set_comparison : (r : Rel) (s t : SetTerm) → Form
    -- `in`, or where it is not positive `notin`
    membership : (positive : Bool) (t : Term) (s : SetTerm) → Form
    emptiness : (s : SetTerm) → Form
    -- the variable ranges over the values of its order for which the restriction is true
    quantified : (q : Quant) (o : Order) (x : ℕ) (d : Restriction) (f : Form) → Form
    -- `let`: the names, their right sides, and the body
    where_let : (xs : List ℕ) (right_sides : Arguments) (f : Form) → Form
    call : (p : ℕ) (arguments : Arguments) → Form
    restrict : (f : Form) → Form
    imported : (i : ℕ) → Form
    exported : (i : ℕ) (f : Form) → Form
    -- the default restriction with number p, at the variable x
    default_at : (p x : ℕ) → Form

  pub data Forms : Type 0 where
    no_forms : Forms
    more_forms : (f : Form) (fs : Forms) → Forms

  pub data Restriction : Type 0 where
    unrestricted : Restriction
    restricted : (d : Form) → Restriction

  -- what a parameter or a `let` name is bound to, by its order
  pub data Argument : Type 0 where
    truth_argument : (f : Form) → Argument
    number_argument : (t : Term) → Argument
    set_argument : (s : SetTerm) → Argument

  pub data Arguments : Type 0 where
    no_arguments : Arguments
    more_arguments : (a : Argument) (more : Arguments) → Arguments

-- a variable as it is declared, a global or a parameter, with its restriction
pub record Declaration : Type 0 where
  pub variable : Variable
  pub restriction : Restriction

-- a predicate, a macro or a default restriction
pub record Predicate : Type 0 where
  pub parameters : List Declaration
  pub body : Form
