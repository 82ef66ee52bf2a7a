-- Variables of one number have one order in a checked source.
use Rattle.std.specs.Prelude.{◌≡◌, ℕ, List, [], ◌∷◌, map, slice_get, Some}
use Rattle.ms_logic.specs.declared.checked.Checked.{Checked}
use Rattle.ms_logic.specs.declared.mode.Order.{Order}
use Rattle.ms_logic.specs.Tree.{Form, truth, falsity, truth_variable, negation, conjunction, disjunction, implication, equivalence, comparison, set_comparison, membership, emptiness, quantified, where_let, call, restrict, imported, exported, default_at, Forms, no_forms, more_forms, Restriction, unrestricted, restricted, Argument, truth_argument, number_argument, set_argument, Arguments, no_arguments, more_arguments, Declaration, Predicate}
use Rattle.ms_logic.specs.View.{formula_of, globals_from, predicate_of}
use Rattle.ms_logic.specs.Lists.{Each}
use Rattle.ms_names_rules.specs.Numbers.{order_of_argument}

-- a number has an order in a table
abbrev pub HasOrder : List Order → ℕ → Order → Type 0
HasOrder orders x o = slice_get orders x ≡ Some o

-- the names of a `let` have the orders of their right sides
abbrev pub NamesHaveOrders : List Order → List ℕ → Arguments → Type 0
NamesHaveOrders orders [] sides = Unit {0}
NamesHaveOrders orders (x ∷ xs) no_arguments = Unit {0}
NamesHaveOrders orders (x ∷ xs) (more_arguments a more) = HasOrder orders x (order_of_argument a) × NamesHaveOrders orders xs more

-- each variable that is bound in a formula has its order in a table
abbrev mutual
  pub BindsInOrder : List Order → Form → Type 0
  BindsInOrder orders truth = Unit {0}
  BindsInOrder orders falsity = Unit {0}
  BindsInOrder orders (truth_variable x) = Unit {0}
  BindsInOrder orders (negation f) = BindsInOrder orders f
  BindsInOrder orders (conjunction fs) = EachBindsInOrder orders fs
  BindsInOrder orders (disjunction fs) = EachBindsInOrder orders fs
  BindsInOrder orders (implication f g) = BindsInOrder orders f × BindsInOrder orders g
  BindsInOrder orders (equivalence f g) = BindsInOrder orders f × BindsInOrder orders g
  BindsInOrder orders (comparison r t u) = Unit {0}
  BindsInOrder orders (set_comparison r s t) = Unit {0}
  BindsInOrder orders (membership positive t s) = Unit {0}
  BindsInOrder orders (emptiness s) = Unit {0}
  BindsInOrder orders (quantified q o x d f) = HasOrder orders x o × RestrictionBindsInOrder orders d × BindsInOrder orders f
  BindsInOrder orders (where_let xs sides f) = NamesHaveOrders orders xs sides × ArgumentsBindInOrder orders sides × BindsInOrder orders f
  BindsInOrder orders (call p given) = ArgumentsBindInOrder orders given
  BindsInOrder orders (restrict f) = BindsInOrder orders f
  BindsInOrder orders (imported i) = Unit {0}
  BindsInOrder orders (exported i f) = BindsInOrder orders f
  BindsInOrder orders (default_at p x) = Unit {0}

  pub EachBindsInOrder : List Order → Forms → Type 0
  EachBindsInOrder orders no_forms = Unit {0}
  EachBindsInOrder orders (more_forms f fs) = BindsInOrder orders f × EachBindsInOrder orders fs

  pub RestrictionBindsInOrder : List Order → Restriction → Type 0
  RestrictionBindsInOrder orders unrestricted = Unit {0}
  RestrictionBindsInOrder orders (restricted d) = BindsInOrder orders d

  pub ArgumentBindsInOrder : List Order → Argument → Type 0
  ArgumentBindsInOrder orders (truth_argument f) = BindsInOrder orders f
  ArgumentBindsInOrder orders (number_argument t) = Unit {0}
  ArgumentBindsInOrder orders (set_argument s) = Unit {0}

  pub ArgumentsBindInOrder : List Order → Arguments → Type 0
  ArgumentsBindInOrder orders no_arguments = Unit {0}
  ArgumentsBindInOrder orders (more_arguments a more) = ArgumentBindsInOrder orders a × ArgumentsBindInOrder orders more

-- a global or a parameter has its order, and so has each variable that its restriction binds
abbrev pub DeclaresInOrder : List Order → Declaration → Type 0
DeclaresInOrder orders d = HasOrder orders d.variable.name d.variable.order × RestrictionBindsInOrder orders d.restriction

abbrev pub PredicateBindsInOrder : List Order → Predicate → Type 0
PredicateBindsInOrder orders p = Each (DeclaresInOrder orders) p.parameters × BindsInOrder orders p.body

-- a table has the order of each global, parameter, quantified variable and name of a `let`, by its number
pub record OrdersAre (checked : Checked) (orders : List Order) : Type 0 where
  pub globals : Each (DeclaresInOrder orders) (globals_from 0 checked.globals)
  pub predicates : Each (PredicateBindsInOrder orders) (map predicate_of checked.predicates)
  pub formulas : Each (λ placed. BindsInOrder orders (formula_of placed.formula)) checked.formulas

abbrev pub HasOneOrder : Checked → Type 0
HasOneOrder checked = (orders : List Order) × OrdersAre checked orders
