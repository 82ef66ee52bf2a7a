-- What holds of an argument holds of it as one of an order.
use Rattle.std.proofs.Common.{ℕ, Option, Some, None, length, ◌==◌}
use Rattle.std.specs.Option.{option_and_then}
use Rattle.ms_logic.specs.declared.mode.Order.{Order}
use Rattle.ms_logic.specs.declared.mode.Order.TheVariants.{Zero, One, Two}
use Rattle.ms_logic.specs.Tree as tree
use Rattle.ms_logic.specs.Tree.{Argument, truth_argument, number_argument, set_argument, Arguments, Form, SetTerm, Term}
use Rattle.ms_names_rules.specs.declared.meaning.Meaning.{Meaning}
use Rattle.ms_names_rules.specs.declared.meaning.Meaning.TheVariants as meaning
use Rattle.ms_names_rules.specs.Order.{parameters_of}
use Rattle.ms_names_rules.specs.Typed.{as_many, formula_in, number_in, of_order, set_in, typed_call}
use Rattle.ms_names_rules.proofs.Fitting.{If, if-one, if-test}

module _ (P : Argument → Type 0) where
  pub if-formula : (a : Option Argument) → If P a → If (λ f. P (truth_argument f)) (formula_in a)
  if-formula None h = tt
  if-formula (Some (truth_argument f)) h = h
  if-formula (Some (number_argument t)) h = tt
  if-formula (Some (set_argument s)) h = tt

  pub if-number : (a : Option Argument) → If P a → If (λ t. P (number_argument t)) (number_in a)
  if-number None h = tt
  if-number (Some (truth_argument f)) h = tt
  if-number (Some (number_argument t)) h = h
  if-number (Some (set_argument s)) h = tt

  pub if-set : (a : Option Argument) → If P a → If (λ s. P (set_argument s)) (set_in a)
  if-set None h = tt
  if-set (Some (truth_argument f)) h = tt
  if-set (Some (number_argument t)) h = tt
  if-set (Some (set_argument s)) h = h

  -- of any order, with what is said of an argument of that order
  pub if-order : (Q : Order → Argument → Type 0) → ((f : Form) → P (truth_argument f) → Q Zero (truth_argument f)) →
      ((t : Term) → P (number_argument t) → Q One (number_argument t)) → ((s : SetTerm) → P (set_argument s) → Q Two (set_argument s)) →
      (o : Order) (a : Option Argument) → If P a → If (Q o) (option_and_then (of_order o) a)
  if-order Q truth number set o None h = tt
  if-order Q truth number set Zero (Some (truth_argument f)) h = truth f h
  if-order Q truth number set Zero (Some (number_argument t)) h = tt
  if-order Q truth number set Zero (Some (set_argument s)) h = tt
  if-order Q truth number set One (Some (truth_argument f)) h = tt
  if-order Q truth number set One (Some (number_argument t)) h = number t h
  if-order Q truth number set One (Some (set_argument s)) h = tt
  if-order Q truth number set Two (Some (truth_argument f)) h = tt
  if-order Q truth number set Two (Some (number_argument t)) h = tt
  if-order Q truth number set Two (Some (set_argument s)) h = set s h

  -- and of a call what holds of its arguments
  pub if-call : (Q : Arguments → Type 0) → ((p : ℕ) (arguments : Arguments) → Q arguments → P (truth_argument (tree.call p arguments))) →
      (m : Option Meaning) (n : ℕ) (given : Option Arguments) → If Q given → If P (typed_call m (as_many n (parameters_of m) given))
  if-call Q called None n given h = tt
  if-call Q called (Some (meaning.Variable x o)) n given h = tt
  if-call Q called (Some (meaning.Constant value)) n given h = tt
  if-call Q called (Some (meaning.Predicate p parameters)) n given h =
      if-one Q P (λ arguments. truth_argument (tree.call p arguments)) (as_many n parameters given) (called p) (if-test Q (n == length parameters) given (λ test. h))
