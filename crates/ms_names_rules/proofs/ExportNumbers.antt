-- The exports in a typed tree count up in the order of the text.
use Rattle.std.proofs.Common.{◌≡◌, ℕ, ◌+◌, Bool, true, false, List, [], ◌∷◌, ◌++◌, Option, Some, None, refl, sym, subst, ◌∙◌, length, slice_get, ◌==◌}
use Rattle.std.specs.Option.{option_map, option_and_then}
use Rattle.ms_logic.specs.declared.mode.Order.{Order}
use Rattle.ms_logic.specs.declared.mode.Order.TheVariants.{Zero, One, Two}
use Rattle.ms_logic.specs.declared.mode.Quant.{Quant}
use Rattle.ms_logic.specs.declared.mode.Rel.{Rel}
use Rattle.ms_logic.specs.declared.mode.Rel.TheVariants.{Equal, Differs, Less, AtMost, Greater, AtLeast, Member, NotMember, Sub}
use Rattle.ms_logic.specs.Tree as tree
use Rattle.ms_logic.specs.Tree.{Term, SetTerm, Form, Forms, Restriction, Argument, truth_argument, number_argument, set_argument, Arguments}
use Rattle.ms_names_rules.specs.declared.meaning.Meaning.{Meaning}
use Rattle.ms_names_rules.specs.declared.meaning.Meaning.TheVariants as meaning
use Rattle.ms_parse_grammar.specs.Tree.{truth, falsity, whole, empty_set, named, numeral, pconst, imported, Expression, atom, prefixed, binary, joined, shifted, enclosed, listed, quantified, let_in, Expressions, no_expressions, and_expression, Variables, no_variables, and_variable, Domain, unrestricted, restricted, Parts, no_parts, and_part, Atom}
use Rattle.ms_parse_grammar.specs.declared.operator.Prefix.TheVariants.{Negation, Minimum, Maximum}
use Rattle.ms_parse_grammar.specs.declared.operator.Binary.TheVariants.{Implication, Equivalence, Relation, Union, Intersection, Difference}
use Rattle.ms_parse_grammar.specs.declared.operator.Junction.TheVariants.{Conjunction, Disjunction}
use Rattle.ms_parse_grammar.specs.declared.operator.Bracket.TheVariants as bracket
use Rattle.ms_parse_grammar.specs.declared.operator.Bracket.TheVariants.{Parentheses, Emptiness, Export}
use Rattle.ms_parse_grammar.specs.declared.operator.Listing.TheVariants.{Literal, Call}
use Rattle.ms_names_rules.specs.Before.{Before, with_names, after, after_all, after_bounds, after_domain, after_parts, after_atom, opened}
use Rattle.ms_names_rules.specs.Constant.{value_of}
use Rattle.ms_names_rules.specs.Numbers.{CountUp, exports_in, exports_in_all, exports_in_argument, exports_in_arguments, exports_in_restriction}
use Rattle.ms_names_rules.specs.Scope.{Scope, count_of_bounds, count_of_parts, default_of, meaning_of, under_bounds, under_parts, count}
use Rattle.ms_names_rules.specs.Typed.{default_restriction, formula_in, number_in, set_in, numbers_of_parts, of_order, related_member, related_numbers, related_sets, typed, typed_arguments, typed_call, typed_domain, typed_formulas, typed_name, typed_numbers, typed_parts, typed_quantifiers, typed_relation, typed_shift, variable_argument, argument_behind, argument_for, as_many, formula_behind, joined_formula, number_behind, quantifier, set_of_two, typed_atom, typed_binary, typed_bracket, typed_prefix}
use Rattle.ms_names_rules.proofs.Fitting.{If, if-one, if-test}
use Rattle.ms_names_rules.proofs.Numbering.{if-two}
use Rattle.ms_parse_grammar.specs.declared.operator.Junction.{Junction}
use Rattle.ms_parse_grammar.specs.declared.operator.Bracket.{Bracket}
use Rattle.ms_parse_grammar.specs.declared.operator.Binary.{Binary}
use Rattle.ms_names_rules.specs.Order.{parameters_of}
use Rattle.ms_parse_grammar.specs.declared.operator.Prefix.{Prefix}
use Rattle.ms_names_rules.proofs.Behind.{argument-exports-behind, exports-behind}

abbrev pub ArgumentCounts : ℕ → ℕ → Argument → Type 0
ArgumentCounts n m a = CountUp n (exports_in_argument a) m

abbrev pub FormCounts : ℕ → ℕ → Form → Type 0
FormCounts n m f = CountUp n (exports_in f) m

pub count-append : (n m k : ℕ) (xs ys : List ℕ) → CountUp n xs m → CountUp m ys k → CountUp n (xs ++ ys) k
count-append n m k [] ys h j = subst (λ l. CountUp l ys k) (sym h) j
count-append n m k (x ∷ xs) ys h j = (h.0, count-append (n + 1) m k xs ys h.1 j)

-- arguments by their orders; terms have no exports

pub formula-counts : (n m : ℕ) (a : Option Argument) → If (ArgumentCounts n m) a → If (FormCounts n m) (formula_in a)
formula-counts n m None h = tt
formula-counts n m (Some (truth_argument f)) h = h
formula-counts n m (Some (number_argument t)) h = tt
formula-counts n m (Some (set_argument s)) h = tt

number-counts : (n m : ℕ) (a : Option Argument) → If (ArgumentCounts n m) a → If (λ t. n ≡ m) (number_in a)
number-counts n m None h = tt
number-counts n m (Some (truth_argument f)) h = tt
number-counts n m (Some (number_argument t)) h = h
number-counts n m (Some (set_argument s)) h = tt

set-counts : (n m : ℕ) (a : Option Argument) → If (ArgumentCounts n m) a → If (λ s. n ≡ m) (set_in a)
set-counts n m None h = tt
set-counts n m (Some (truth_argument f)) h = tt
set-counts n m (Some (number_argument t)) h = tt
set-counts n m (Some (set_argument s)) h = h

order-counts : (n m : ℕ) (o : Order) (a : Option Argument) → If (ArgumentCounts n m) a → If (ArgumentCounts n m) (option_and_then (of_order o) a)
order-counts n m o None h = tt
order-counts n m Zero (Some (truth_argument f)) h = h
order-counts n m Zero (Some (number_argument t)) h = tt
order-counts n m Zero (Some (set_argument s)) h = tt
order-counts n m One (Some (truth_argument f)) h = tt
order-counts n m One (Some (number_argument t)) h = h
order-counts n m One (Some (set_argument s)) h = tt
order-counts n m Two (Some (truth_argument f)) h = tt
order-counts n m Two (Some (number_argument t)) h = tt
order-counts n m Two (Some (set_argument s)) h = h

variable-counts : (n x : ℕ) (o : Order) → ArgumentCounts n n (variable_argument x o)
variable-counts n x Zero = refl
variable-counts n x One = refl
variable-counts n x Two = refl

name-counts : (n : ℕ) (m : Option Meaning) → If (ArgumentCounts n n) (typed_name m)
name-counts n None = tt
name-counts n (Some (meaning.Variable x o)) = variable-counts n x o
name-counts n (Some (meaning.Constant value)) = refl
name-counts n (Some (meaning.Predicate p [])) = refl
name-counts n (Some (meaning.Predicate p (o ∷ parameters))) = tt

call-counts : (n m : ℕ) (known : Option Meaning) (given : Option Arguments) → If (λ arguments_are. CountUp n (exports_in_arguments arguments_are) m) given →
    If (ArgumentCounts n m) (typed_call known given)
call-counts n m None given h = tt
call-counts n m (Some (meaning.Variable x o)) given h = tt
call-counts n m (Some (meaning.Constant value)) given h = tt
call-counts n m (Some (meaning.Predicate p parameters)) given h =
    if-one (λ arguments_are. CountUp n (exports_in_arguments arguments_are) m) (ArgumentCounts n m) (λ arguments_are. truth_argument (tree.call p arguments_are)) given (λ arguments_are k. k) h

argument-counts : (n m : ℕ) (o : Option Order) (a : Option Argument) → If (ArgumentCounts n m) a → If (ArgumentCounts n m) (argument_for o a)
argument-counts n m None a h = tt
argument-counts n m (Some o) a h = order-counts n m o a h

numbers-count : (n m : ℕ) (r : Rel) (t u : Term) → n ≡ m → If (ArgumentCounts n m) (related_numbers r t u)
numbers-count n m Equal t u h = h
numbers-count n m Differs t u h = h
numbers-count n m Less t u h = h
numbers-count n m AtMost t u h = h
numbers-count n m Greater t u h = h
numbers-count n m AtLeast t u h = h
numbers-count n m Member t u h = tt
numbers-count n m NotMember t u h = tt
numbers-count n m Sub t u h = tt

sets-count : (n m : ℕ) (r : Rel) (t u : SetTerm) → n ≡ m → If (ArgumentCounts n m) (related_sets r t u)
sets-count n m Equal t u h = h
sets-count n m Differs t u h = h
sets-count n m Less t u h = tt
sets-count n m AtMost t u h = tt
sets-count n m Greater t u h = tt
sets-count n m AtLeast t u h = tt
sets-count n m Member t u h = tt
sets-count n m NotMember t u h = tt
sets-count n m Sub t u h = h

members-count : (n m : ℕ) (r : Rel) (t : Term) (u : SetTerm) → n ≡ m → If (ArgumentCounts n m) (related_member r t u)
members-count n m Equal t u h = tt
members-count n m Differs t u h = tt
members-count n m Less t u h = tt
members-count n m AtMost t u h = tt
members-count n m Greater t u h = tt
members-count n m AtLeast t u h = tt
members-count n m Member t u h = h
members-count n m NotMember t u h = h
members-count n m Sub t u h = tt

relation-counts : (n l m : ℕ) (r : Rel) (a b : Option Argument) → If (ArgumentCounts n l) a → If (ArgumentCounts l m) b → If (ArgumentCounts n m) (typed_relation r a b)
relation-counts n l m r None b h k = tt
relation-counts n l m r (Some a) None h k = tt
relation-counts n l m r (Some (truth_argument f)) (Some b) h k = tt
relation-counts n l m r (Some (number_argument t)) (Some (truth_argument g)) h k = tt
relation-counts n l m r (Some (number_argument t)) (Some (number_argument u)) h k = numbers-count n m r t u (h ∙ k)
relation-counts n l m r (Some (number_argument t)) (Some (set_argument u)) h k = members-count n m r t u (h ∙ k)
relation-counts n l m r (Some (set_argument t)) (Some (truth_argument g)) h k = tt
relation-counts n l m r (Some (set_argument t)) (Some (number_argument u)) h k = tt
relation-counts n l m r (Some (set_argument t)) (Some (set_argument u)) h k = sets-count n m r t u (h ∙ k)

shift-counts : (n m : ℕ) (minus : Bool) (i : Option ℕ) (a : Option Argument) → If (ArgumentCounts n m) a → If (ArgumentCounts n m) (typed_shift minus i a)
shift-counts n m minus None a h = tt
shift-counts n m minus (Some i) None h = tt
shift-counts n m minus (Some i) (Some (truth_argument f)) h = tt
shift-counts n m true (Some i) (Some (number_argument t)) h = h
shift-counts n m false (Some i) (Some (number_argument t)) h = h
shift-counts n m true (Some i) (Some (set_argument s)) h = h
shift-counts n m false (Some i) (Some (set_argument s)) h = h

default-counts : (n : ℕ) (d : Option ℕ) (x : ℕ) → CountUp n (exports_in_restriction (default_restriction d x)) n
default-counts n None x = refl
default-counts n (Some p) x = refl

value-counts : (n : ℕ) (i : Option ℕ) → If (ArgumentCounts n n) (option_map (λ k. set_argument (tree.pconst k)) i)
value-counts n None = tt
value-counts n (Some k) = refl

atom-counts : (s : Scope) (b : Before) (a : Atom) → If (ArgumentCounts b.exports (after_atom b a).exports) (typed_atom s b a)
atom-counts s b truth = refl
atom-counts s b falsity = refl
atom-counts s b whole = refl
atom-counts s b empty_set = refl
atom-counts s b (named n) = name-counts b.exports (meaning_of s n)
atom-counts s b (numeral n) = refl
atom-counts s b (pconst i) = value-counts b.exports (value_of s i)
atom-counts s b (imported file rs) = refl

prefix-counts : (n m : ℕ) (op : Prefix) (a : Option Argument) → If (ArgumentCounts n m) a → If (ArgumentCounts n m) (typed_prefix op a)
prefix-counts n m Negation a h = if-one (FormCounts n m) (ArgumentCounts n m) (λ f. truth_argument (tree.negation f)) (formula_in a) (λ f k. k) (formula-counts n m a h)
prefix-counts n m Minimum a h = if-one (λ t. n ≡ m) (ArgumentCounts n m) (λ t. number_argument (tree.minimum t)) (set_in a) (λ t k. k) (set-counts n m a h)
prefix-counts n m Maximum a h = if-one (λ t. n ≡ m) (ArgumentCounts n m) (λ t. number_argument (tree.maximum t)) (set_in a) (λ t k. k) (set-counts n m a h)

sets-both-count : (n l m : ℕ) (make : SetTerm → SetTerm → SetTerm) (a c : Option Argument) → If (ArgumentCounts n l) a → If (ArgumentCounts l m) c →
    If (ArgumentCounts n m) (set_of_two make a c)
sets-both-count n l m make a c h k =
    if-two (λ t. n ≡ l) (λ u. l ≡ m) (ArgumentCounts n m) (λ t u. set_argument (make t u)) (set_in a) (set_in c) (λ t u i j. i ∙ j) (set-counts n l a h) (set-counts l m c k)

binary-counts : (n l m : ℕ) (op : Binary) (a c : Option Argument) → If (ArgumentCounts n l) a → If (ArgumentCounts l m) c → If (ArgumentCounts n m) (typed_binary op a c)
binary-counts n l m Implication a c h k =
    if-two (FormCounts n l) (FormCounts l m) (ArgumentCounts n m) (λ f g. truth_argument (tree.implication f g)) (formula_in a) (formula_in c)
    (λ f g i j. count-append n l m (exports_in f) (exports_in g) i j) (formula-counts n l a h) (formula-counts l m c k)
binary-counts n l m Equivalence a c h k =
    if-two (FormCounts n l) (FormCounts l m) (ArgumentCounts n m) (λ f g. truth_argument (tree.equivalence f g)) (formula_in a) (formula_in c)
    (λ f g i j. count-append n l m (exports_in f) (exports_in g) i j) (formula-counts n l a h) (formula-counts l m c k)
binary-counts n l m (Relation r) a c h k = relation-counts n l m r a c h k
binary-counts n l m Union a c h k = sets-both-count n l m (λ t u. tree.union t u) a c h k
binary-counts n l m Intersection a c h k = sets-both-count n l m (λ t u. tree.intersection t u) a c h k
binary-counts n l m Difference a c h k = sets-both-count n l m (λ t u. tree.difference t u) a c h k

joined-counts : (n m : ℕ) (op : Junction) (fs : Forms) → CountUp n (exports_in_all fs) m → CountUp n (exports_in (joined_formula op fs)) m
joined-counts n m Conjunction fs h = h
joined-counts n m Disjunction fs h = h

bracket-counts : (b : Before) (k : Bracket) (m : ℕ) (a : Option Argument) → If (ArgumentCounts (opened b k).exports m) a → If (ArgumentCounts b.exports m) (typed_bracket b k a)
bracket-counts b Parentheses m a h = h
bracket-counts b Emptiness m a h =
    if-one (λ t. b.exports ≡ m) (ArgumentCounts b.exports m) (λ t. truth_argument (tree.emptiness t)) (set_in a) (λ t k. k) (set-counts b.exports m a h)
bracket-counts b bracket.Restriction m a h =
    if-one (FormCounts b.exports m) (ArgumentCounts b.exports m) (λ f. truth_argument (tree.restrict f)) (formula_in a) (λ f k. k) (formula-counts b.exports m a h)
bracket-counts b (Export text_at file) m a h =
    if-one (FormCounts (b.exports + 1) m) (ArgumentCounts b.exports m) (λ f. truth_argument (tree.exported b.exports f)) (formula_in a) (λ f k. (refl, k)) (formula-counts (b.exports + 1) m a h)

count-behind : (n l m : ℕ) (xs ys all : List ℕ) → all ≡ xs ++ ys → CountUp n xs l → CountUp l ys m → CountUp n all m
count-behind n l m xs ys all same h k = subst (λ there. CountUp n there m) (sym same) (count-append n l m xs ys h k)

mutual
  pub exports-count : (s : Scope) (b : Before) (e : Expression) → If (ArgumentCounts b.exports (after b e).exports) (typed s b e)
  exports-count s b (atom at a) = atom-counts s b a
  exports-count s b (prefixed at op e) = prefix-counts b.exports (after b e).exports op (typed s b e) (exports-count s b e)
  exports-count s b (binary at op e f) =
      binary-counts b.exports (after b e).exports (after (after b e) f).exports op (typed s b e) (typed s (after b e) f) (exports-count s b e) (exports-count s (after b e) f)
  exports-count s b (joined at op es) =
      let m = (after_all b es).exports in
      if-one (λ fs. CountUp b.exports (exports_in_all fs) m) (ArgumentCounts b.exports m) (λ fs. truth_argument (joined_formula op fs)) (typed_formulas s b es)
      (joined-counts b.exports m op) (formulas-all s b es)
  exports-count s b (shifted at e i) = shift-counts b.exports (after b e).exports i.minus (value_of s i) (typed s b e) (exports-count s b e)
  exports-count s b (enclosed at k e) = bracket-counts b k (after (opened b k) e).exports (typed s (opened b k) e) (exports-count s (opened b k) e)
  exports-count s b (listed at Literal es) =
      if-one (λ ts. b.exports ≡ (after_all b es).exports) (ArgumentCounts b.exports (after_all b es).exports) (λ ts. set_argument (tree.literal ts)) (typed_numbers s b es) (λ ts h. h)
      (numbers-all s b es)
  exports-count s b (listed at (Call n) es) =
      let m = (after_all b es).exports in
      let parameters = parameters_of (meaning_of s n) in
      call-counts b.exports m (meaning_of s n) (as_many (count es) parameters (typed_arguments s b parameters es))
      (if-test (λ given. CountUp b.exports (exports_in_arguments given) m) (count es == length parameters) (typed_arguments s b parameters es) (λ test. arguments-all s b parameters es))
  exports-count s b (quantified at q o vs e) =
      let here = with_names b (count_of_bounds vs) in
      let end = after_bounds here vs in
      let inner = under_bounds s b.next vs in
      if-one (FormCounts b.exports (after end e).exports) (ArgumentCounts b.exports (after end e).exports) (λ f. truth_argument f)
      (typed_quantifiers s b.next here q vs (formula_in (typed inner end e))) (λ f h. h)
      (quantifiers-all s b.next here q vs (formula_in (typed inner end e)) (after end e).exports
      (formula-counts end.exports (after end e).exports (typed inner end e) (exports-count inner end e)))
  exports-count s b (let_in at o ps e) =
      let here = with_names b (count_of_parts ps) in
      let end = after_parts here ps in
      let inner = under_parts s b.next o ps in
      if-two (λ sides. CountUp b.exports (exports_in_arguments sides) end.exports) (FormCounts end.exports (after end e).exports) (ArgumentCounts b.exports (after end e).exports)
      (λ sides f. truth_argument (tree.where_let (numbers_of_parts b.next ps) sides f)) (typed_parts s here o ps) (formula_in (typed inner end e))
      (λ sides f h k. count-append b.exports end.exports (after end e).exports (exports_in_arguments sides) (exports_in f) h k)
      (parts-all s here o ps) (formula-counts end.exports (after end e).exports (typed inner end e) (exports-count inner end e))

  numbers-all : (s : Scope) (b : Before) (es : Expressions) → If (λ ts. b.exports ≡ (after_all b es).exports) (typed_numbers s b es)
  numbers-all s b no_expressions = refl
  numbers-all s b (and_expression es e) =
      let end = after_all b es in
      if-two (λ ts. b.exports ≡ end.exports) (λ t. end.exports ≡ (after end e).exports) (λ ts. b.exports ≡ (after end e).exports)
      number_behind (typed_numbers s b es) (number_in (typed s end e)) (λ ts t h k. h ∙ k)
      (numbers-all s b es) (number-counts end.exports (after end e).exports (typed s end e) (exports-count s end e))

  formulas-all : (s : Scope) (b : Before) (es : Expressions) → If (λ fs. CountUp b.exports (exports_in_all fs) (after_all b es).exports) (typed_formulas s b es)
  formulas-all s b no_expressions = refl
  formulas-all s b (and_expression es e) =
      let end = after_all b es in
      let m = (after end e).exports in
      if-two (λ fs. CountUp b.exports (exports_in_all fs) end.exports) (FormCounts end.exports m) (λ fs. CountUp b.exports (exports_in_all fs) m)
      formula_behind (typed_formulas s b es) (formula_in (typed s end e))
      (λ fs f h k. count-behind b.exports end.exports m (exports_in_all fs) (exports_in f) (exports_in_all (formula_behind fs f)) (exports-behind fs f) h k)
      (formulas-all s b es) (formula-counts end.exports m (typed s end e) (exports-count s end e))

  arguments-all : (s : Scope) (b : Before) (parameters : List Order) (es : Expressions) →
      If (λ given. CountUp b.exports (exports_in_arguments given) (after_all b es).exports) (typed_arguments s b parameters es)
  arguments-all s b parameters no_expressions = refl
  arguments-all s b parameters (and_expression es e) =
      let end = after_all b es in
      let m = (after end e).exports in
      let o = slice_get parameters (count es) in
      if-two (λ given. CountUp b.exports (exports_in_arguments given) end.exports) (ArgumentCounts end.exports m) (λ given. CountUp b.exports (exports_in_arguments given) m)
      argument_behind (typed_arguments s b parameters es) (argument_for o (typed s end e))
      (λ given a h k. count-behind b.exports end.exports m (exports_in_arguments given) (exports_in_argument a) (exports_in_arguments (argument_behind given a)) (argument-exports-behind given a) h k)
      (arguments-all s b parameters es) (argument-counts end.exports m o (typed s end e) (exports-count s end e))

  quantifiers-all : (s : Scope) (x : ℕ) (b : Before) (q : Quant) (vs : Variables) (f : Option Form) (m : ℕ) →
      If (FormCounts (after_bounds b vs).exports m) f → If (FormCounts b.exports m) (typed_quantifiers s x b q vs f)
  quantifiers-all s x b q no_variables f m body = body
  quantifiers-all s x b q (and_variable vs at o n d) f m body =
      let y = x + count_of_bounds vs in
      let begin = after_bounds b vs in
      let end = after_domain begin d in
      let inner = under_bounds s x (and_variable vs at o n d) in
      quantifiers-all s x b q vs (quantifier q o y (typed_domain inner begin o y d) f) m
      (if-two (λ r. CountUp begin.exports (exports_in_restriction r) end.exports) (FormCounts end.exports m) (FormCounts begin.exports m) (λ r g. tree.quantified q o y r g)
      (typed_domain inner begin o y d) f
      (λ r g h k. count-append begin.exports end.exports m (exports_in_restriction r) (exports_in g) h k)
      (domain-count inner begin o y d) body)

  pub domain-count : (s : Scope) (b : Before) (o : Order) (x : ℕ) (d : Domain) → If (λ r. CountUp b.exports (exports_in_restriction r) (after_domain b d).exports) (typed_domain s b o x d)
  domain-count s b o x unrestricted = default-counts b.exports (default_of s o) x
  domain-count s b o x (restricted e) =
      if-one (FormCounts b.exports (after b e).exports) (λ r. CountUp b.exports (exports_in_restriction r) (after b e).exports) (λ f. tree.restricted f) (formula_in (typed s b e)) (λ f h. h)
      (formula-counts b.exports (after b e).exports (typed s b e) (exports-count s b e))

  parts-all : (s : Scope) (b : Before) (o : Order) (ps : Parts) → If (λ sides. CountUp b.exports (exports_in_arguments sides) (after_parts b ps).exports) (typed_parts s b o ps)
  parts-all s b o no_parts = refl
  parts-all s b o (and_part ps at n e) =
      let end = after_parts b ps in
      let m = (after end e).exports in
      if-two (λ sides. CountUp b.exports (exports_in_arguments sides) end.exports) (ArgumentCounts end.exports m) (λ sides. CountUp b.exports (exports_in_arguments sides) m)
      argument_behind (typed_parts s b o ps) (option_and_then (of_order o) (typed s end e))
      (λ sides a h k. count-behind b.exports end.exports m (exports_in_arguments sides) (exports_in_argument a) (exports_in_arguments (argument_behind sides a)) (argument-exports-behind sides a) h k)
      (parts-all s b o ps) (order-counts end.exports m o (typed s end e) (exports-count s end e))
