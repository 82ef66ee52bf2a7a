-- The order of an expression, seen from its form, and the order that its place wants.
use Rattle.std.specs.Prelude.{Bool, true, false, List, [], Option, Some, None}
use Rattle.ms_logic.specs.declared.mode.Order.{Order}
use Rattle.ms_logic.specs.declared.mode.Order.TheVariants.{Zero, One, Two}
use Rattle.ms_logic.specs.declared.mode.Rel.{Rel}
use Rattle.ms_logic.specs.declared.mode.Rel.TheVariants.{Equal, Differs, Less, AtMost, Greater, AtLeast, Member, NotMember, Sub}
use Rattle.ms_parse_grammar.specs.Tree.{Atom, truth, falsity, whole, empty_set, named, numeral, pconst, imported, Expression, atom, prefixed, binary, joined, shifted, enclosed, listed, quantified, let_in}
use Rattle.ms_parse_grammar.specs.declared.operator.Prefix.{Prefix}
use Rattle.ms_parse_grammar.specs.declared.operator.Prefix.TheVariants.{Negation, Minimum, Maximum}
use Rattle.ms_parse_grammar.specs.declared.operator.Binary.{Binary}
use Rattle.ms_parse_grammar.specs.declared.operator.Binary.TheVariants.{Implication, Equivalence, Relation, Union, Intersection, Difference}
use Rattle.ms_parse_grammar.specs.declared.operator.Bracket.{Bracket}
use Rattle.ms_parse_grammar.specs.declared.operator.Bracket.TheVariants.{Parentheses, Emptiness, Restriction, Export}
use Rattle.ms_parse_grammar.specs.declared.operator.Listing.{Listing}
use Rattle.ms_parse_grammar.specs.declared.operator.Listing.TheVariants.{Literal, Call}
use Rattle.ms_names_rules.specs.declared.meaning.Meaning.{Meaning}
use Rattle.ms_names_rules.specs.declared.meaning.Meaning.TheVariants.{Variable, Constant, Predicate}
use Rattle.ms_names_rules.specs.declared.wanted.Wanted.{Wanted}
use Rattle.ms_names_rules.specs.declared.wanted.Wanted.TheVariants.{Exactly, NumberOrSet, Anything}
use Rattle.ms_names_rules.specs.Scope.{Scope, meaning_of}

-- a variable has its own order, a constant is a number, and a predicate is a formula
abbrev pub order_of_meaning : Meaning → Order
order_of_meaning (Variable x o) = o
order_of_meaning (Constant value) = One
order_of_meaning (Predicate p parameters) = Zero

-- a name by itself; an unknown one has no order
abbrev pub order_of_name : Option Meaning → Option Order
order_of_name None = None
order_of_name (Some m) = Some (order_of_meaning m)

-- a call of a known name is a formula
abbrev pub order_of_call : Option Meaning → Option Order
order_of_call None = None
order_of_call (Some m) = Some Zero

abbrev pub order_of_atom : Scope → Atom → Option Order
order_of_atom s truth = Some Zero
order_of_atom s falsity = Some Zero
order_of_atom s whole = Some Two
order_of_atom s empty_set = Some Two
order_of_atom s (named n) = order_of_name (meaning_of s n)
order_of_atom s (numeral n) = Some One
order_of_atom s (pconst i) = Some Two
order_of_atom s (imported file rs) = Some Zero

-- of what an operator makes

abbrev pub order_of_prefix : Prefix → Order
order_of_prefix Negation = Zero
order_of_prefix Minimum = One
order_of_prefix Maximum = One

abbrev pub order_of_binary : Binary → Order
order_of_binary Implication = Zero
order_of_binary Equivalence = Zero
order_of_binary (Relation r) = Zero
order_of_binary Union = Two
order_of_binary Intersection = Two
order_of_binary Difference = Two

-- parentheses have the order of what is in them
abbrev pub order_of_bracket : Bracket → Option Order → Option Order
order_of_bracket Parentheses o = o
order_of_bracket Emptiness o = Some Zero
order_of_bracket Restriction o = Some Zero
order_of_bracket (Export text_at file) o = Some Zero

abbrev pub order_of_listing : Scope → Listing → Option Order
order_of_listing s Literal = Some Two
order_of_listing s (Call n) = order_of_call (meaning_of s n)

abbrev pub order_of : Scope → Expression → Option Order
order_of s (atom at a) = order_of_atom s a
order_of s (prefixed at op e) = Some (order_of_prefix op)
order_of s (binary at op e f) = Some (order_of_binary op)
order_of s (joined at op es) = Some Zero
order_of s (shifted at e i) = order_of s e
order_of s (enclosed at k e) = order_of_bracket k (order_of s e)
order_of s (listed at l es) = order_of_listing s l
order_of s (quantified at q o vs e) = Some Zero
order_of s (let_in at o ps e) = Some Zero

abbrev pub is_order : Order → Order → Bool
is_order Zero Zero = true
is_order One One = true
is_order Two Two = true
is_order _ _ = false

-- an expression without an order, by an unknown name, is no fault of order
abbrev pub fits : Wanted → Option Order → Bool
fits w None = true
fits (Exactly o) (Some p) = is_order o p
fits NumberOrSet (Some Zero) = false
fits NumberOrSet (Some One) = true
fits NumberOrSet (Some Two) = true
fits Anything (Some p) = true

abbrev pub formula_wanted : Wanted
formula_wanted = Exactly Zero

abbrev pub number_wanted : Wanted
number_wanted = Exactly One

abbrev pub set_wanted : Wanted
set_wanted = Exactly Two

-- the operand of an operator before it
abbrev pub operand_wanted : Prefix → Wanted
operand_wanted Negation = formula_wanted
operand_wanted Minimum = set_wanted
operand_wanted Maximum = set_wanted

-- what stands in a bracket; parentheses want no order
abbrev pub content_wanted : Bracket → Wanted
content_wanted Parentheses = Anything
content_wanted Emptiness = set_wanted
content_wanted Restriction = formula_wanted
content_wanted (Export text_at file) = formula_wanted

abbrev pub wanted_on_the_left : Rel → Wanted
wanted_on_the_left Equal = NumberOrSet
wanted_on_the_left Differs = NumberOrSet
wanted_on_the_left Less = Exactly One
wanted_on_the_left AtMost = Exactly One
wanted_on_the_left Greater = Exactly One
wanted_on_the_left AtLeast = Exactly One
wanted_on_the_left Member = Exactly One
wanted_on_the_left NotMember = Exactly One
wanted_on_the_left Sub = Exactly Two

-- the order of the other side, where it has one
abbrev pub wanted_beside : Option Order → Wanted
wanted_beside None = NumberOrSet
wanted_beside (Some o) = Exactly o

-- on the right, by the order of the left
abbrev pub wanted_on_the_right : Rel → Option Order → Wanted
wanted_on_the_right Equal left = wanted_beside left
wanted_on_the_right Differs left = wanted_beside left
wanted_on_the_right Less left = Exactly One
wanted_on_the_right AtMost left = Exactly One
wanted_on_the_right Greater left = Exactly One
wanted_on_the_right AtLeast left = Exactly One
wanted_on_the_right Member left = Exactly Two
wanted_on_the_right NotMember left = Exactly Two
wanted_on_the_right Sub left = Exactly Two

-- the operands of an operator between them, the right one by the order of the left

abbrev pub left_wanted : Binary → Wanted
left_wanted Implication = formula_wanted
left_wanted Equivalence = formula_wanted
left_wanted (Relation r) = wanted_on_the_left r
left_wanted Union = set_wanted
left_wanted Intersection = set_wanted
left_wanted Difference = set_wanted

abbrev pub right_wanted : Binary → Option Order → Wanted
right_wanted Implication left = formula_wanted
right_wanted Equivalence left = formula_wanted
right_wanted (Relation r) left = wanted_on_the_right r left
right_wanted Union left = set_wanted
right_wanted Intersection left = set_wanted
right_wanted Difference left = set_wanted

-- the parameters of a name that is called
abbrev pub parameters_of : Option Meaning → List Order
parameters_of None = []
parameters_of (Some (Variable x o)) = []
parameters_of (Some (Constant value)) = []
parameters_of (Some (Predicate p parameters)) = parameters

-- an argument, by the order of its parameter, if it has one
abbrev pub wanted_by : Option Order → Wanted
wanted_by None = Anything
wanted_by (Some o) = Exactly o
