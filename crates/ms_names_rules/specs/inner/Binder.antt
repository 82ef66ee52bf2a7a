-- What binds names: lists of variables with their restrictions, and the names of a `let` with their right sides.
use Rattle.std.specs.Prelude.{ℕ, ◌+◌, Bool, true, false, List, [], ◌∷◌, ◌++◌, map, Option, Some, None}
use Rattle.std.specs.Option.{option_map}
use Rattle.ms_logic.specs.declared.formula.Binding.{Binding}
use Rattle.ms_logic.specs.declared.mode.Order.{Order}
use Rattle.ms_logic.specs.declared.mode.Quant.{Quant}
use Rattle.ms_logic.specs.Tree as tree
use Rattle.ms_logic.specs.Tree.{Form, Restriction, Arguments}
use Rattle.ms_logic.specs.View.{arguments, binding_of}
use Rattle.ms_parse_grammar.specs.Tree.{Variables, no_variables, and_variable, Domain, unrestricted, restricted, Parts}
use Rattle.ms_names_rules.specs.Scope.{Scope, default_of, count_of_bounds, under_bounds}
use Rattle.ms_names_rules.specs.Before.{Before, after_bounds}
use Rattle.ms_names_rules.specs.Typed.{both, typed_domain, typed_parts, numbers_of_parts}
use Rattle.ms_names_rules.specs.TypedSource.{restriction_of_parameter}

-- the restriction of the variable x of an order: its own, or the default where the list takes defaults
abbrev pub restriction_in : (takes_defaults : Bool) → Scope → Before → Order → ℕ → Domain → Option Restriction
restriction_in true s b o x d = typed_domain s b o x d
restriction_in false s b o x d = restriction_of_parameter s b d

-- the variable x of an order with a restriction
abbrev pub restricted_variable : ℕ → Order → Restriction → tree.Declaration
restricted_variable x o r = record { variable = record { name = x; order = o }; restriction = r }

-- the variables of a list with their restrictions; their numbers go on from x
abbrev pub restricted_variables : (takes_defaults : Bool) → Scope → ℕ → Before → Variables → Option (List tree.Declaration)
restricted_variables takes_defaults s x b no_variables = Some []
restricted_variables takes_defaults s x b (and_variable vs at o n d) =
    both (λ earlier r. earlier ++ restricted_variable (x + count_of_bounds vs) o r ∷ [])
    (restricted_variables takes_defaults s x b vs)
    (restriction_in takes_defaults (under_bounds s x (and_variable vs at o n d)) (after_bounds b vs) o (x + count_of_bounds vs) d)

-- the default restriction that a variable of an order takes, if it has none of its own
abbrev pub default_for : Scope → Order → Domain → Option ℕ
default_for s o unrestricted = default_of s o
default_for s o (restricted e) = None

-- quantifiers over variables in one another round a body, the first outermost
abbrev pub quantified_over : Quant → List tree.Declaration → Form → Form
quantified_over q [] f = f
quantified_over q (v ∷ vs) f = tree.quantified q v.variable.order v.variable.name v.restriction (quantified_over q vs f)

-- the names of a `let` by their numbers, and their right sides
abbrev pub sides_of : List Binding → List ℕ × Arguments
sides_of bs = (map (λ b. b.0) (map binding_of bs), arguments (map (λ b. b.1) (map binding_of bs)))

abbrev pub typed_sides : Scope → ℕ → Before → Order → Parts → Option (List ℕ × Arguments)
typed_sides s x b o ps = option_map (λ sides. (numbers_of_parts x ps, sides)) (typed_parts s b o ps)

-- a predicate by its parameters and its body
abbrev pub predicate_with : List tree.Declaration → Form → tree.Predicate
predicate_with parameters body = record { parameters = parameters; body = body }
