-- The numbers of variables in the answer. In the spread of a formula the number of a bound variable tells only how many binders
-- are around it, so variables of different orders may have one number. In the answer a number has one order.
use Rattle.std.specs.Prelude.{ℕ, ◌+◌, ◌-◌, ◌*◌, nat_lt, if◌then◌else◌, List, [], ◌∷◌, ◌++◌, length, map, slice_get, Option, Some, None}
use Rattle.std.specs.List.{zip}
use Rattle.std.specs.Option.{option_map}
use Rattle.ms_logic.specs.declared.checked.ImportUse.{ImportUse}
use Rattle.ms_logic.specs.declared.checked.MapPair.{MapPair}
use Rattle.ms_logic_core.specs.declared.core_formula.Basic.{Basic}
use Rattle.ms_logic_core.specs.declared.core_formula.Basic.TheVariants.{Truth, Number, Plus, Less, Member, Sub, Union, Inter, Diff, Up, Down, Min, Max, Bits}
use Rattle.ms_logic.specs.declared.mode.Order.{Order}
use Rattle.ms_logic.specs.declared.mode.Order.TheVariants.{Zero, One, Two}
use Rattle.ms_logic.specs.Assignment.{Variable}
use Rattle.ms_logic_core.specs.CoreForm.{CoreForm, truth, falsity, basic, negation, conjunction, disjunction, implication, equivalence, restrict, imported, quantified, CoreForms, no_forms, more_forms, CoreRestriction, unrestricted, restricted}
use Rattle.ms_logic_core.specs.Roots.{Root}
use Rattle.ms_logic.specs.Tree.{Predicate}
use Rattle.ms_logic.specs.View.{predicate_of}
use Rattle.ms_lower.specs.declared.tables.Tables.{Tables}

abbrev pub rank : Order → ℕ
rank Zero = 0
rank One = 1
rank Two = 2

-- the number in the answer of the variable with this order and number, where numbers below one are kept: a global keeps its number,
-- and for any other number there are three behind those of all globals, one for each order
abbrev pub number_at : ℕ → ℕ → Order → ℕ → ℕ
number_at kept globals order x = if nat_lt x kept then x else globals + (3 * (x - kept) + rank order)

-- new numbers for the variables of core formulas
pub record Numbering : Type 0 where
  pub number : Order → ℕ → ℕ
  -- the variables of an import, which have the orders of those that stand for them
  pub imported : ℕ → List Variable

abbrev pub renumbered_basic : Numbering → Basic → Basic
renumbered_basic n (Truth a) = Truth (n.number Zero a)
renumbered_basic n (Number x k) = Number (n.number One x) k
renumbered_basic n (Plus x y k) = Plus (n.number One x) (n.number One y) k
renumbered_basic n (Less x y) = Less (n.number One x) (n.number One y)
renumbered_basic n (Member x s) = Member (n.number One x) (n.number Two s)
renumbered_basic n (Sub s t) = Sub (n.number Two s) (n.number Two t)
renumbered_basic n (Union s t u) = Union (n.number Two s) (n.number Two t) (n.number Two u)
renumbered_basic n (Inter s t u) = Inter (n.number Two s) (n.number Two t) (n.number Two u)
renumbered_basic n (Diff s t u) = Diff (n.number Two s) (n.number Two t) (n.number Two u)
renumbered_basic n (Up s t k) = Up (n.number Two s) (n.number Two t) k
renumbered_basic n (Down s t k) = Down (n.number Two s) (n.number Two t) k
renumbered_basic n (Min x s) = Min (n.number One x) (n.number Two s)
renumbered_basic n (Max x s) = Max (n.number One x) (n.number Two s)
renumbered_basic n (Bits s k) = Bits (n.number Two s) k

abbrev mutual
  pub renumbered : Numbering → CoreForm → CoreForm
  renumbered n truth = truth
  renumbered n falsity = falsity
  renumbered n (basic b) = basic (renumbered_basic n b)
  renumbered n (negation f) = negation (renumbered n f)
  renumbered n (conjunction fs) = conjunction (renumbered_each n fs)
  renumbered n (disjunction fs) = disjunction (renumbered_each n fs)
  renumbered n (implication f g) = implication (renumbered n f) (renumbered n g)
  renumbered n (equivalence f g) = equivalence (renumbered n f) (renumbered n g)
  renumbered n (restrict f) = restrict (renumbered n f)
  renumbered n (imported i xs) = imported i (map (λ p. n.number p.1.order p.0) (zip xs (n.imported i)))
  renumbered n (quantified q o x d f) = quantified q o (n.number o x) (renumbered_in n d) (renumbered n f)

  pub renumbered_each : Numbering → CoreForms → CoreForms
  renumbered_each n no_forms = no_forms
  renumbered_each n (more_forms f fs) = more_forms (renumbered n f) (renumbered_each n fs)

  pub renumbered_in : Numbering → CoreRestriction → CoreRestriction
  renumbered_in n unrestricted = unrestricted
  renumbered_in n (restricted d) = restricted (renumbered n d)

-- a variable with its number of the answer
abbrev pub renumbered_variable : Numbering → Variable → Variable
renumbered_variable n v = record { name = n.number v.order v.name; order = v.order }

-- a root with the numbers of the answer
abbrev pub with_new_numbers : Numbering → Root → Root
with_new_numbers n root = record { variables = map (renumbered_variable n) root.variables; formula = renumbered n root.formula }

-- the variable that stands for one of an import
abbrev pub variable_of_pair : MapPair → Variable
variable_of_pair p = record { name = p.variable; order = p.order }

abbrev pub variables_of_use : Option ImportUse → List Variable
variables_of_use None = []
variables_of_use (Some used) = map variable_of_pair used.pairs

-- what is named at a call of a predicate: the variables of its parameters, and the first number that is free
abbrev pub variables_of_call : Option Predicate → List Variable
variables_of_call None = []
variables_of_call (Some predicate) = map (λ d. d.variable) predicate.parameters ++ (record { name = 0; order = Zero }) ∷ []

-- the variables of an import of the source, or of a call, which stands as an import behind those
abbrev pub variables_at : Tables → ℕ → List Variable
variables_at tables i =
    if nat_lt i (length tables.imports.now)
    then variables_of_use (slice_get tables.imports.now i)
    else variables_of_call (option_map predicate_of (slice_get tables.predicates.now (i - length tables.imports.now)))

-- the numbers of the answer, for a source with these imports and predicates
abbrev pub numbering_of : Tables → Numbering
numbering_of tables = record { number = number_at tables.kept tables.globals; imported = variables_at tables }
