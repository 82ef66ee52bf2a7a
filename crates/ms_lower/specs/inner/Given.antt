-- The arguments of a call, or the right sides of a `let`, put in place of parameters or names.
use Rattle.std.specs.Prelude.{◌≡◌, ℕ, List, [], ◌∷◌, ◌++◌, map, Option, Some, None}
use Rattle.std.specs.Option.{option_map}
use Rattle.ms_logic.specs.declared.mode.Order.{Order}
use Rattle.ms_logic.specs.declared.mode.Order.TheVariants.{Zero, One, Two}
use Rattle.ms_logic.specs.declared.mode.Quant.TheVariants.{Ex}
use Rattle.ms_logic_core.specs.declared.core_formula.Basic.TheVariants.{Truth}
use Rattle.ms_logic_core.specs.CoreForm.{CoreForm, basic, core_form_of, equivalence, quantified, restrict, unrestricted}
use Rattle.ms_logic_core.specs.Spread.{Callees, Names, Saying, TermSpread, both_of, spread_number, spread_set, spread_under, truth_value, variable_of_form}
use Rattle.ms_logic.specs.Tree.{Argument, truth_argument, number_argument, set_argument}
use Rattle.ms_logic.specs.View.{argument_of, binding_of}
use Rattle.ms_lower.specs.declared.arguments.Arguments.{Arguments}
use Rattle.ms_lower.specs.declared.arguments.Arguments.TheVariants.{Call, Let}
use Rattle.ms_lower.specs.declared.defined.Defined.{Defined}
use Rattle.ms_lower.specs.declared.given.Entered.{Entered}
use Rattle.ms_lower.specs.declared.scope.Named.{Named}
use Rattle.ms_lower.specs.inner.Defined.{IsDefined, below}
use Rattle.ms_lower.specs.inner.Scope.{all_named}
use Rattle.ms_lower.specs.Numbering.{Numbering, renumbered}

-- the variables that get a value
abbrev pub variables_of : Arguments → List ℕ
variables_of (Call params values) = map (λ p. p.variable) params.now
variables_of (Let bindings) = map (λ b. b.0) (map binding_of bindings.now)

abbrev pub values_of : Arguments → List Argument
values_of (Call params values) = map argument_of values.now
values_of (Let bindings) = map (λ b. b.1) (map binding_of bindings.now)

-- the variable that gets a value, if there is one, with the number in the spread of what the value is
abbrev pub named_by : Option ℕ → Defined → List Named
named_by None made = []
named_by (Some x) made = (record { order = made.order; variable = x; name = made.name }) ∷ []

-- a formula below the binder of a truth value, if that is new: it is true where a formula is Yes and false where it is No
abbrev pub below_truth : ℕ → Option CoreForm → CoreForm → CoreForm
below_truth x None f = f
below_truth x (Some d) f = quantified Ex Zero x unrestricted (both_of (restrict (equivalence (basic (Truth x)) d)) f)

abbrev pub below_given_at : Order → Defined → CoreForm → CoreForm
below_given_at Zero made f = below_truth made.number (option_map core_form_of made.definition) f
below_given_at One made f = below made f
below_given_at Two made f = below made f

abbrev pub below_given : Defined → CoreForm → CoreForm
below_given made f = below_given_at made.order made f

abbrev pub below_all : List Defined → CoreForm → CoreForm
below_all [] f = f
below_all (made ∷ more) f = below_given made (below_all more f)

-- no arguments
abbrev pub nothing_entered : ℕ → Entered
nothing_entered free = record { defined = []; named = []; next = free }

-- with one argument more, if there is one
abbrev pub entered_with : Entered → Option ℕ → Option Defined → Entered
entered_with before variable None = before
entered_with before variable (Some made) = record {
  defined = before.defined ++ made ∷ [];
  named = before.named ++ named_by variable made;
  next = made.next;
}

-- the variable that a number or a set among the arguments is
abbrev pub IsNumberOrSet : Numbering → Argument → Names → ℕ → Option Defined → Type 0
IsNumberOrSet n (truth_argument f) names free made = made ≡ None
IsNumberOrSet n (number_argument t) names free made = (d : Defined) × (made ≡ Some d) × IsDefined n One (spread_number t names) free d
IsNumberOrSet n (set_argument s) names free made = (d : Defined) × (made ≡ Some d) × IsDefined n Two (spread_set s names) free d

-- a formula that is said with inner names and a number from which on all are free
abbrev pub Inner : Type 0
Inner = Names → ℕ → CoreForm

-- values are put in place of variables around such a formula, over some names that are read inside
abbrev pub Giving : Type 0
Giving = Names → ℕ → Inner → CoreForm

-- what is said of a value is said of this variable, below its binder if it is new
pub record IsGiven (n : Numbering) (order : Order) (T : TermSpread) (free : ℕ) (made : Defined) : Type 0 where
  pub order_is : made.order ≡ order
  pub says : (Said : Saying) → renumbered n (T free Said) ≡ below_given_at order made (renumbered n (Said made.next made.name))

-- of some values the first have been entered, and the others are left
pub record EntersBefore (n : Numbering) (whole rest : Giving) (free : ℕ) (made : Entered) : Type 0 where
  pub says : (inner : Names) (Said : Inner) → renumbered n (whole inner free Said)
      ≡ below_all made.defined (renumbered n (rest inner made.next (λ inner free. Said (all_named made.named inner) free)))

-- all values have been entered
pub record Enters (n : Numbering) (whole : Giving) (free : ℕ) (made : Entered) : Type 0 where
  pub says : (inner : Names) (Said : Inner) → renumbered n (whole inner free Said)
      ≡ below_all made.defined (renumbered n (Said (all_named made.named inner) made.next))

-- the variable that a truth value among the arguments is
abbrev pub IsTruth : Numbering → Callees → Argument → Names → ℕ → Option Defined → Type 0
IsTruth n c (truth_argument f) names free made =
    (d : Defined) × (made ≡ Some d) × IsGiven n Zero (truth_value (option_map (names Zero) (variable_of_form f)) (spread_under c f names)) free d
IsTruth n c (number_argument t) names free made = made ≡ None
IsTruth n c (set_argument s) names free made = made ≡ None
