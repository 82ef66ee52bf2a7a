-- Operations on expressions: what they are in the tree of a source, what they want, and what comes of them.
use Rattle.std.specs.Prelude.{Option}
use Rattle.std.specs.Option.{option_map}
use Rattle.ms_list.specs.declared.at.At.{At}
use Rattle.ms_logic.specs.Tree as tree
use Rattle.ms_logic.specs.Tree.{Argument, Forms, truth_argument}
use Rattle.ms_names_rules.specs.declared.wanted.Wanted.{Wanted}
use Rattle.ms_names_rules.specs.Order.{formula_wanted, set_wanted}
use Rattle.ms_parse_grammar.specs.declared.operator.Prefix.TheVariants.{Negation, Minimum, Maximum}
use Rattle.ms_parse_grammar.specs.declared.operator.Binary.TheVariants.{Implication, Equivalence, Union, Intersection, Difference}
use Rattle.ms_parse_grammar.specs.declared.operator.Junction.TheVariants.{Conjunction, Disjunction}
use Rattle.ms_parse_grammar.specs.declared.operator.Bracket.TheVariants.{Emptiness, Restriction}
use Rattle.ms_parse_grammar.specs.Tree.{Expression, prefixed, binary, joined, enclosed, Expressions}
use Rattle.ms_names_rules.specs.Typed.{formula_of_one, formula_of_two, number_of_set, set_in, set_of_two}
use Rattle.ms_names.specs.declared.operation.Binary.{Binary}
use Rattle.ms_names.specs.declared.operation.Binary.TheVariants.{Implies, Iff, Union, Inter, Minus}
use Rattle.ms_names.specs.declared.operation.Connective.{Connective}
use Rattle.ms_names.specs.declared.operation.Connective.TheVariants.{And, Or}
use Rattle.ms_names.specs.declared.operation.Unary.{Unary}
use Rattle.ms_names.specs.declared.operation.Unary.TheVariants.{Not, Restrict, IsEmpty, Min, Max}

-- on one expression

abbrev pub of_one : Unary → At → Expression → Expression
of_one Not at e = prefixed at Negation e
of_one Restrict at e = enclosed at Restriction e
of_one IsEmpty at e = enclosed at Emptiness e
of_one Min at e = prefixed at Minimum e
of_one Max at e = prefixed at Maximum e

abbrev pub wanted_of_one : Unary → Wanted
wanted_of_one Not = formula_wanted
wanted_of_one Restrict = formula_wanted
wanted_of_one IsEmpty = set_wanted
wanted_of_one Min = set_wanted
wanted_of_one Max = set_wanted

abbrev pub made_of_one : Unary → Option Argument → Option Argument
made_of_one Not a = formula_of_one (λ f. tree.negation f) a
made_of_one Restrict a = formula_of_one (λ f. tree.restrict f) a
made_of_one IsEmpty a = option_map (λ t. truth_argument (tree.emptiness t)) (set_in a)
made_of_one Min a = number_of_set (λ t. tree.minimum t) a
made_of_one Max a = number_of_set (λ t. tree.maximum t) a

-- on two expressions of one order

abbrev pub of_two : Binary → At → Expression → Expression → Expression
of_two Implies at e f = binary at Implication e f
of_two Iff at e f = binary at Equivalence e f
of_two Union at e f = binary at Union e f
of_two Inter at e f = binary at Intersection e f
of_two Minus at e f = binary at Difference e f

abbrev pub wanted_of_two : Binary → Wanted
wanted_of_two Implies = formula_wanted
wanted_of_two Iff = formula_wanted
wanted_of_two Union = set_wanted
wanted_of_two Inter = set_wanted
wanted_of_two Minus = set_wanted

abbrev pub made_of_two : Binary → Option Argument → Option Argument → Option Argument
made_of_two Implies a b = formula_of_two (λ f g. tree.implication f g) a b
made_of_two Iff a b = formula_of_two (λ f g. tree.equivalence f g) a b
made_of_two Union a b = set_of_two (λ s t. tree.union s t) a b
made_of_two Inter a b = set_of_two (λ s t. tree.intersection s t) a b
made_of_two Minus a b = set_of_two (λ s t. tree.difference s t) a b

-- on a list of formulas

abbrev pub of_all : Connective → At → Expressions → Expression
of_all And at es = joined at Conjunction es
of_all Or at es = joined at Disjunction es

abbrev pub made_of_all : Connective → Option Forms → Option Argument
made_of_all And fs = option_map (λ all. truth_argument (tree.conjunction all)) fs
made_of_all Or fs = option_map (λ all. truth_argument (tree.disjunction all)) fs
