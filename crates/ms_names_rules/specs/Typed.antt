-- The typed tree that an expression becomes, where nothing is wrong with it: what each name became.
use Rattle.std.specs.Prelude.{ℕ, ◌+◌, ◌==◌, Bool, true, false, if◌then◌else◌, List, [], ◌∷◌, ◌++◌, length, slice_get, Option, Some, None}
use Rattle.std.specs.Option.{option_map, option_and_then}
use Rattle.ms_logic.specs.declared.mode.Order.{Order}
use Rattle.ms_logic.specs.declared.mode.Order.TheVariants.{Zero, One, Two}
use Rattle.ms_logic.specs.declared.mode.Quant.{Quant}
use Rattle.ms_logic.specs.declared.mode.Rel.{Rel}
use Rattle.ms_logic.specs.declared.mode.Rel.TheVariants.{Equal, Differs, Member, NotMember, Sub}
use Rattle.ms_logic.specs.Tree as tree
use Rattle.ms_logic.specs.Tree.{Term, SetTerm, Terms, Form, Forms, Restriction, Argument, truth_argument, number_argument, set_argument, Arguments}
use Rattle.ms_parse_grammar.specs.Tree.{Atom, truth, falsity, whole, empty_set, named, numeral, pconst, imported, Expression, atom, prefixed, binary, joined, shifted, enclosed, listed, quantified, let_in, Expressions, no_expressions, and_expression, Variables, no_variables, and_variable, Domain, unrestricted, restricted, Parts, no_parts, and_part}
use Rattle.ms_parse_grammar.specs.declared.operator.Prefix.{Prefix}
use Rattle.ms_parse_grammar.specs.declared.operator.Prefix.TheVariants.{Negation, Minimum, Maximum}
use Rattle.ms_parse_grammar.specs.declared.operator.Binary.{Binary}
use Rattle.ms_parse_grammar.specs.declared.operator.Binary.TheVariants.{Implication, Equivalence, Relation, Union, Intersection, Difference}
use Rattle.ms_parse_grammar.specs.declared.operator.Junction.{Junction}
use Rattle.ms_parse_grammar.specs.declared.operator.Junction.TheVariants.{Conjunction, Disjunction}
use Rattle.ms_parse_grammar.specs.declared.operator.Bracket.{Bracket}
use Rattle.ms_parse_grammar.specs.declared.operator.Bracket.TheVariants.{Parentheses, Emptiness, Export}
use Rattle.ms_parse_grammar.specs.declared.operator.Listing.TheVariants.{Literal, Call}
use Rattle.ms_parse_grammar.specs.declared.operator.Bracket.TheVariants as bracket
use Rattle.ms_names_rules.specs.declared.meaning.Meaning.{Meaning}
use Rattle.ms_names_rules.specs.declared.meaning.Meaning.TheVariants.{Variable, Constant, Predicate}
use Rattle.ms_names_rules.specs.Scope.{Scope, meaning_of, default_of, under_bounds, under_parts, count, count_of_bounds, count_of_parts}
use Rattle.ms_names_rules.specs.Before.{Before, opened, with_names, after, after_all, after_bounds, after_parts}
use Rattle.ms_names_rules.specs.Constant.{value_of}
use Rattle.ms_names_rules.specs.Order.{parameters_of}
use Rattle.ms_logic.specs.View.{arguments}

-- something made of what two options hold, where both hold something
abbrev pub both : {A B C : Type 0} → (A → B → C) → Option A → Option B → Option C
both make None b = None
both make (Some a) None = None
both make (Some a) (Some b) = Some (make a b)

abbrev pub as_formula : Argument → Option Form
as_formula (truth_argument f) = Some f
as_formula (number_argument t) = None
as_formula (set_argument s) = None

abbrev pub as_number : Argument → Option Term
as_number (truth_argument f) = None
as_number (number_argument t) = Some t
as_number (set_argument s) = None

abbrev pub as_set : Argument → Option SetTerm
as_set (truth_argument f) = None
as_set (number_argument t) = None
as_set (set_argument s) = Some s

abbrev pub formula_in : Option Argument → Option Form
formula_in a = option_and_then as_formula a

abbrev pub number_in : Option Argument → Option Term
number_in a = option_and_then as_number a

abbrev pub set_in : Option Argument → Option SetTerm
set_in a = option_and_then as_set a

-- a formula, a number or a set, made of one part or of two

abbrev pub formula_of_one : (Form → Form) → Option Argument → Option Argument
formula_of_one make a = option_map (λ f. truth_argument (make f)) (formula_in a)

abbrev pub formula_of_two : (Form → Form → Form) → Option Argument → Option Argument → Option Argument
formula_of_two make a b = both (λ f g. truth_argument (make f g)) (formula_in a) (formula_in b)

abbrev pub number_of_set : (SetTerm → Term) → Option Argument → Option Argument
number_of_set make a = option_map (λ s. number_argument (make s)) (set_in a)

abbrev pub set_of_two : (SetTerm → SetTerm → SetTerm) → Option Argument → Option Argument → Option Argument
set_of_two make a b = both (λ s t. set_argument (make s t)) (set_in a) (set_in b)

-- a variable as an expression of its order
abbrev pub variable_argument : ℕ → Order → Argument
variable_argument x Zero = truth_argument (tree.truth_variable x)
variable_argument x One = number_argument (tree.number_variable x)
variable_argument x Two = set_argument (tree.set_variable x)

-- a name by itself: a variable, the number of a constant, or a call without arguments
abbrev pub typed_name : Option Meaning → Option Argument
typed_name None = None
typed_name (Some (Variable x o)) = Some (variable_argument x o)
typed_name (Some (Constant value)) = Some (number_argument (tree.numeral value))
typed_name (Some (Predicate p [])) = Some (truth_argument (tree.call p tree.no_arguments))
typed_name (Some (Predicate p (o ∷ parameters))) = None

-- an argument of this order
abbrev pub of_order : Order → Argument → Option Argument
of_order Zero (truth_argument f) = Some (truth_argument f)
of_order One (number_argument t) = Some (number_argument t)
of_order Two (set_argument s) = Some (set_argument s)
of_order _ _ = None

-- a relation of two numbers
abbrev pub related_numbers : Rel → Term → Term → Option Argument
related_numbers Member t u = None
related_numbers NotMember t u = None
related_numbers Sub t u = None
related_numbers r t u = Some (truth_argument (tree.comparison r t u))

-- of two sets
abbrev pub related_sets : Rel → SetTerm → SetTerm → Option Argument
related_sets Equal s t = Some (truth_argument (tree.set_comparison Equal s t))
related_sets Differs s t = Some (truth_argument (tree.set_comparison Differs s t))
related_sets Sub s t = Some (truth_argument (tree.set_comparison Sub s t))
related_sets _ s t = None

-- of a number and a set
abbrev pub related_member : Rel → Term → SetTerm → Option Argument
related_member Member t s = Some (truth_argument (tree.membership true t s))
related_member NotMember t s = Some (truth_argument (tree.membership false t s))
related_member _ t s = None

abbrev pub related : Rel → Argument → Argument → Option Argument
related r (number_argument t) (number_argument u) = related_numbers r t u
related r (set_argument s) (set_argument t) = related_sets r s t
related r (number_argument t) (set_argument s) = related_member r t s
related r _ _ = None

abbrev pub typed_relation : Rel → Option Argument → Option Argument → Option Argument
typed_relation r None b = None
typed_relation r (Some a) None = None
typed_relation r (Some a) (Some b) = related r a b

-- a number or a set, moved up or down
abbrev pub moved : Bool → ℕ → Argument → Option Argument
moved minus n (truth_argument f) = None
moved true n (number_argument t) = Some (number_argument (tree.minus t n))
moved false n (number_argument t) = Some (number_argument (tree.plus t n))
moved true n (set_argument s) = Some (set_argument (tree.shift_down s n))
moved false n (set_argument s) = Some (set_argument (tree.shift_up s n))

abbrev pub typed_shift : Bool → Option ℕ → Option Argument → Option Argument
typed_shift minus None a = None
typed_shift minus (Some n) a = option_and_then (moved minus n) a

-- arguments, as many as parameters
abbrev pub as_many : ℕ → List Order → Option Arguments → Option Arguments
as_many given parameters arguments = if given == length parameters then arguments else None

abbrev pub typed_call : Option Meaning → Option Arguments → Option Argument
typed_call None arguments = None
typed_call (Some (Variable x o)) arguments = None
typed_call (Some (Constant value)) arguments = None
typed_call (Some (Predicate p parameters)) arguments = option_map (λ all. truth_argument (tree.call p all)) arguments

-- the restriction of a variable that has none of its own: the default of its order, at the variable
abbrev pub default_restriction : Option ℕ → ℕ → Restriction
default_restriction None x = tree.unrestricted
default_restriction (Some p) x = tree.restricted (tree.default_at p x)

abbrev pub typed_restriction : Option Argument → Option Restriction
typed_restriction d = option_map (λ f. tree.restricted f) (formula_in d)

-- a quantifier over a variable with its restriction
abbrev pub quantifier : Quant → Order → ℕ → Option Restriction → Option Form → Option Form
quantifier q o x d f = both (λ restriction body. tree.quantified q o x restriction body) d f

-- with one more behind

abbrev pub number_behind : Terms → Term → Terms
number_behind tree.no_terms t = tree.more_terms t tree.no_terms
number_behind (tree.more_terms first ts) t = tree.more_terms first (number_behind ts t)

abbrev pub formula_behind : Forms → Form → Forms
formula_behind tree.no_forms f = tree.more_forms f tree.no_forms
formula_behind (tree.more_forms first fs) f = tree.more_forms first (formula_behind fs f)

abbrev pub argument_behind : Arguments → Argument → Arguments
argument_behind tree.no_arguments a = tree.more_arguments a tree.no_arguments
argument_behind (tree.more_arguments first more) a = tree.more_arguments first (argument_behind more a)

-- the numbers of the names of a `let`, which go on from x
abbrev pub numbers_of_parts : ℕ → Parts → List ℕ
numbers_of_parts x no_parts = []
numbers_of_parts x (and_part ps at n e) = numbers_of_parts x ps ++ (x + count_of_parts ps) ∷ []

-- what an argument became, if there is a parameter of its order
abbrev pub argument_for : Option Order → Option Argument → Option Argument
argument_for None a = None
argument_for (Some o) a = option_and_then (of_order o) a

-- imports and exports are numbered in the order of the text
abbrev pub typed_atom : Scope → Before → Atom → Option Argument
typed_atom s b truth = Some (truth_argument tree.truth)
typed_atom s b falsity = Some (truth_argument tree.falsity)
typed_atom s b whole = Some (set_argument tree.whole)
typed_atom s b empty_set = Some (set_argument tree.empty_set)
typed_atom s b (named n) = typed_name (meaning_of s n)
typed_atom s b (numeral n) = Some (number_argument (tree.numeral n))
typed_atom s b (pconst i) = option_map (λ n. set_argument (tree.pconst n)) (value_of s i)
typed_atom s b (imported file rs) = Some (truth_argument (tree.imported b.imports))

abbrev pub typed_prefix : Prefix → Option Argument → Option Argument
typed_prefix Negation a = formula_of_one (λ f. tree.negation f) a
typed_prefix Minimum a = number_of_set (λ t. tree.minimum t) a
typed_prefix Maximum a = number_of_set (λ t. tree.maximum t) a

abbrev pub typed_binary : Binary → Option Argument → Option Argument → Option Argument
typed_binary Implication a c = formula_of_two (λ f g. tree.implication f g) a c
typed_binary Equivalence a c = formula_of_two (λ f g. tree.equivalence f g) a c
typed_binary (Relation r) a c = typed_relation r a c
typed_binary Union a c = set_of_two (λ t u. tree.union t u) a c
typed_binary Intersection a c = set_of_two (λ t u. tree.intersection t u) a c
typed_binary Difference a c = set_of_two (λ t u. tree.difference t u) a c

abbrev pub joined_formula : Junction → Forms → Form
joined_formula Conjunction fs = tree.conjunction fs
joined_formula Disjunction fs = tree.disjunction fs

abbrev pub typed_bracket : Before → Bracket → Option Argument → Option Argument
typed_bracket b Parentheses a = a
typed_bracket b Emptiness a = option_map (λ t. truth_argument (tree.emptiness t)) (set_in a)
typed_bracket b bracket.Restriction a = formula_of_one (λ f. tree.restrict f) a
typed_bracket b (Export text_at file) a = formula_of_one (λ f. tree.exported b.exports f) a

abbrev mutual
  pub typed : Scope → Before → Expression → Option Argument
  typed s b (atom at a) = typed_atom s b a
  typed s b (prefixed at op e) = typed_prefix op (typed s b e)
  typed s b (binary at op e f) = typed_binary op (typed s b e) (typed s (after b e) f)
  typed s b (joined at op es) = option_map (λ fs. truth_argument (joined_formula op fs)) (typed_formulas s b es)
  typed s b (shifted at e i) = typed_shift i.minus (value_of s i) (typed s b e)
  typed s b (enclosed at k e) = typed_bracket b k (typed s (opened b k) e)
  typed s b (listed at Literal es) = option_map (λ ts. set_argument (tree.literal ts)) (typed_numbers s b es)
  typed s b (listed at (Call n) es) =
      let parameters = parameters_of (meaning_of s n) in
      typed_call (meaning_of s n) (as_many (count es) parameters (typed_arguments s b parameters es))
  -- a list of variables stands for quantifiers in one another, the first outermost
  typed s b (quantified at q o vs e) =
      let here = with_names b (count_of_bounds vs) in
      option_map (λ f. truth_argument f)
      (typed_quantifiers s b.next here q vs (formula_in (typed (under_bounds s b.next vs) (after_bounds here vs) e)))
  typed s b (let_in at o ps e) =
      let here = with_names b (count_of_parts ps) in
      both (λ right_sides f. truth_argument (tree.where_let (numbers_of_parts b.next ps) right_sides f))
      (typed_parts s here o ps) (formula_in (typed (under_parts s b.next o ps) (after_parts here ps) e))

  pub typed_numbers : Scope → Before → Expressions → Option Terms
  typed_numbers s b no_expressions = Some tree.no_terms
  typed_numbers s b (and_expression es e) = both number_behind (typed_numbers s b es) (number_in (typed s (after_all b es) e))

  pub typed_formulas : Scope → Before → Expressions → Option Forms
  typed_formulas s b no_expressions = Some tree.no_forms
  typed_formulas s b (and_expression es e) = both formula_behind (typed_formulas s b es) (formula_in (typed s (after_all b es) e))

  -- the arguments, each of the order of its parameter
  pub typed_arguments : Scope → Before → List Order → Expressions → Option Arguments
  typed_arguments s b parameters no_expressions = Some tree.no_arguments
  typed_arguments s b parameters (and_expression es e) =
      both argument_behind (typed_arguments s b parameters es)
      (argument_for (slice_get parameters (count es)) (typed s (after_all b es) e))

  -- the quantifiers of a list of variables, whose numbers go on from x, round a body
  pub typed_quantifiers : Scope → ℕ → Before → Quant → Variables → Option Form → Option Form
  typed_quantifiers s x b q no_variables f = f
  typed_quantifiers s x b q (and_variable vs at o n d) f =
      typed_quantifiers s x b q vs
      (quantifier q o (x + count_of_bounds vs)
      (typed_domain (under_bounds s x (and_variable vs at o n d)) (after_bounds b vs) o (x + count_of_bounds vs) d) f)

  -- the restriction of the variable x of an order
  pub typed_domain : Scope → Before → Order → ℕ → Domain → Option Restriction
  typed_domain s b o x unrestricted = Some (default_restriction (default_of s o) x)
  typed_domain s b o x (restricted e) = typed_restriction (typed s b e)

  -- the right sides of a `let` of an order
  pub typed_parts : Scope → Before → Order → Parts → Option Arguments
  typed_parts s b o no_parts = Some tree.no_arguments
  typed_parts s b o (and_part ps at n e) =
      both argument_behind (typed_parts s b o ps) (option_and_then (of_order o) (typed s (after_parts b ps) e))
