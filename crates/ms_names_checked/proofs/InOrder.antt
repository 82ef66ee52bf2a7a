-- What an expression becomes binds its variables with their orders.
use Rattle.std.proofs.Common.{◌≡◌, ℕ, ◌+◌, Bool, true, false, List, [], ◌∷◌, ◌++◌, length, Option, Some, None, refl, sym, ap, subst, ◌∙◌, slice_get}
use Rattle.std.specs.Option.{option_and_then}
use Rattle.ms_logic.specs.declared.mode.Order.{Order}
use Rattle.ms_logic.specs.declared.mode.Order.TheVariants.{Zero, One, Two}
use Rattle.ms_logic.specs.declared.mode.Quant.{Quant}
use Rattle.ms_logic.specs.Tree as tree
use Rattle.ms_logic.specs.Tree.{Argument, truth_argument, number_argument, set_argument, Arguments, no_arguments, more_arguments, Form, Forms}
use Rattle.ms_names_rules.specs.declared.meaning.Meaning.{Meaning}
use Rattle.ms_names_rules.specs.declared.meaning.Meaning.TheVariants as meaning
use Rattle.ms_parse_grammar.specs.Tree.{truth, falsity, whole, empty_set, named, numeral, pconst, imported, Expression, atom, prefixed, binary, joined, shifted, enclosed, listed, quantified, let_in, Expressions, no_expressions, and_expression, Variables, no_variables, and_variable, Domain, unrestricted, restricted, Parts, no_parts, and_part, Atom}
use Rattle.ms_parse_grammar.specs.declared.operator.Junction.TheVariants.{Conjunction, Disjunction}
use Rattle.ms_parse_grammar.specs.declared.operator.Listing.TheVariants.{Literal, Call}
use Rattle.ms_names_rules.specs.Before.{Before, with_names, after, after_bounds, after_parts, after_all, opened}
use Rattle.ms_names_rules.specs.Constant.{value_of}
use Rattle.ms_names_rules.specs.Declarations.{orders_of_bounds}
use Rattle.ms_names_rules.specs.Numbers.{order_of_argument, orders_of_arguments}
use Rattle.ms_names_rules.specs.Scope.{Scope, count_of_bounds, count_of_parts, default_of, meaning_of, under_bounds, under_parts, count}
use Rattle.ms_names_rules.specs.Typed.{default_restriction, formula_in, numbers_of_parts, of_order, typed, typed_arguments, typed_domain, typed_formulas, typed_name, typed_numbers, typed_parts, typed_quantifiers, typed_shift, variable_argument, argument_behind, argument_for, formula_behind, joined_formula, typed_atom, quantifier}
use Rattle.ms_names_rules.proofs.Fitting.{If, if-any, if-one, if-weaker}
use Rattle.ms_names_rules.proofs.Numbering.{Stand, if-two}
use Rattle.ms_names_rules.proofs.Standing.{stand-back, stand-front}
use Rattle.ms_names_checked.specs.Orders.{ArgumentBindsInOrder, ArgumentsBindInOrder, BindsInOrder, EachBindsInOrder, NamesHaveOrders, RestrictionBindsInOrder}
use Rattle.ms_names_checked.proofs.Hiding.{from, orders_of_parts, numbers-from}
use Rattle.ms_names_checked.proofs.OrdersInText.{bounds-long, orders-long, orders_in, orders_in_all, orders_in_bounds, orders_in_domain, orders_in_parts, parts-long, restrictions-long, sides-long}
use Rattle.ms_names_checked.proofs.OfOrders.{if-call, if-formula, if-order}
use Rattle.ms_names_checked.proofs.Operators.{Combines, bracket-holds, opened-next, prefix-holds, binary-holds}
use Rattle.ms_parse_grammar.specs.declared.operator.Junction.{Junction}
use Rattle.ms_names_rules.proofs.Behind.{orders-behind}
use Rattle.ms_names_checked.proofs.OrdersInText.{all-long}
use Rattle.ms_names_rules.specs.Order.{parameters_of}

pub stand-next : (T : List Order) (n m : ℕ) (xs ys : List Order) → m ≡ n + length xs → Stand T n (xs ++ ys) → Stand T m ys
stand-next T n m xs ys same h = subst (λ k. Stand T k ys) (sym same) (stand-back T n xs ys h)

module _ (T : List Order) where
  pub formula-in-order : (a : Option Argument) → If (ArgumentBindsInOrder T) a → If (BindsInOrder T) (formula_in a)
  formula-in-order = if-formula (ArgumentBindsInOrder T)

  abbrev IsSide : Order → Argument → Type 0
  IsSide o a = ArgumentBindsInOrder T a × (order_of_argument a ≡ o)

  side-in-order : (o : Order) (a : Option Argument) → If (ArgumentBindsInOrder T) a → If (IsSide o) (option_and_then (of_order o) a)
  side-in-order = if-order (ArgumentBindsInOrder T) IsSide (λ f h. (h, refl)) (λ t h. (h, refl)) (λ s h. (h, refl))

  variable-in-order : (x : ℕ) (o : Order) → ArgumentBindsInOrder T (variable_argument x o)
  variable-in-order x Zero = tt
  variable-in-order x One = tt
  variable-in-order x Two = tt

  name-in-order : (m : Option Meaning) → If (ArgumentBindsInOrder T) (typed_name m)
  name-in-order None = tt
  name-in-order (Some (meaning.Variable x o)) = variable-in-order x o
  name-in-order (Some (meaning.Constant value)) = tt
  name-in-order (Some (meaning.Predicate p [])) = tt
  name-in-order (Some (meaning.Predicate p (o ∷ parameters))) = tt

  shift-in-order : (minus : Bool) (n : Option ℕ) (a : Option Argument) → If (ArgumentBindsInOrder T) (typed_shift minus n a)
  shift-in-order minus None a = tt
  shift-in-order minus (Some n) None = tt
  shift-in-order minus (Some n) (Some (truth_argument f)) = tt
  shift-in-order true (Some n) (Some (number_argument t)) = tt
  shift-in-order false (Some n) (Some (number_argument t)) = tt
  shift-in-order true (Some n) (Some (set_argument s)) = tt
  shift-in-order false (Some n) (Some (set_argument s)) = tt

  argument-in-order : (o : Option Order) (a : Option Argument) → If (ArgumentBindsInOrder T) a → If (ArgumentBindsInOrder T) (argument_for o a)
  argument-in-order None a h = tt
  argument-in-order (Some o) a h = if-weaker (IsSide o) (ArgumentBindsInOrder T) (option_and_then (of_order o) a) (λ b k. k.0) (side-in-order o a h)

  -- lists with one more behind

  formulas-behind : (fs : Forms) (f : Form) → EachBindsInOrder T fs → BindsInOrder T f → EachBindsInOrder T (formula_behind fs f)
  formulas-behind tree.no_forms f h k = (k, tt)
  formulas-behind (tree.more_forms first fs) f h k = (h.0, formulas-behind fs f h.1 k)

  arguments-behind : (given : Arguments) (a : Argument) → ArgumentsBindInOrder T given → ArgumentBindsInOrder T a → ArgumentsBindInOrder T (argument_behind given a)
  arguments-behind no_arguments a h k = (k, tt)
  arguments-behind (more_arguments first more) a h k = (h.0, arguments-behind more a h.1 k)

  default-in-order : (d : Option ℕ) (x : ℕ) → RestrictionBindsInOrder T (default_restriction d x)
  default-in-order None x = tt
  default-in-order (Some p) x = tt

  -- arguments of these orders take the numbers from x on
  names-from : (x : ℕ) (os : List Order) (sides : Arguments) → orders_of_arguments sides ≡ os → Stand T x os → NamesHaveOrders T (from x os) sides
  names-from x [] sides same h = tt
  names-from x (o ∷ os) no_arguments same h = tt
  names-from x (o ∷ os) (more_arguments a more) same h =
      let first : order_of_argument a ≡ o = cc in
      let rest : orders_of_arguments more ≡ os = cc in
      (h.0 ∙ ap (λ p. Some p) (sym first), names-from (x + 1) os more rest h.1)

  names-in-order : (x : ℕ) (o : Order) (ps : Parts) (sides : Arguments) → orders_of_arguments sides ≡ orders_of_parts o ps → Stand T x (orders_of_parts o ps) →
      NamesHaveOrders T (numbers_of_parts x ps) sides
  names-in-order x o ps sides same h =
      subst (λ xs. NamesHaveOrders T xs sides) (sym (numbers-from x o ps)) (names-from x (orders_of_parts o ps) sides same h)

  atom-in-order : (s : Scope) (b : Before) (a : Atom) → If (ArgumentBindsInOrder T) (typed_atom s b a)
  atom-in-order s b truth = tt
  atom-in-order s b falsity = tt
  atom-in-order s b whole = tt
  atom-in-order s b empty_set = tt
  atom-in-order s b (named n) = name-in-order (meaning_of s n)
  atom-in-order s b (numeral n) = tt
  atom-in-order s b (pconst i) = if-one (λ k. Unit {0}) (ArgumentBindsInOrder T) (λ k. set_argument (tree.pconst k)) (value_of s i) (λ k trivial. tt) (if-any (value_of s i))
  atom-in-order s b (imported file rs) = tt

  joined-in-order : (op : Junction) (fs : Forms) → EachBindsInOrder T fs → BindsInOrder T (joined_formula op fs)
  joined-in-order Conjunction fs h = h
  joined-in-order Disjunction fs h = h

  combines : Combines (ArgumentBindsInOrder T) (ArgumentBindsInOrder T) (ArgumentBindsInOrder T)
  combines = record {
    implied = λ f g i j. (i, j);
    equated = λ f g i j. (i, j);
    numbers = λ p is t u i j. tt;
    sets = λ p is t u i j. tt;
    members = λ positive t u i j. tt;
    united = λ t u i j. tt;
    met = λ t u i j. tt;
    left = λ t u i j. tt;
  }

  mutual
    pub in-order : (s : Scope) (b : Before) (e : Expression) → Stand T b.next (orders_in e) → If (ArgumentBindsInOrder T) (typed s b e)
    in-order s b (atom at a) h = atom-in-order s b a
    in-order s b (prefixed at op e) h =
        prefix-holds (ArgumentBindsInOrder T) (ArgumentBindsInOrder T) op (typed s b e) (λ f k. k) (λ t k. tt) (λ t k. tt) (in-order s b e h)
    in-order s b (binary at op e f) h =
        binary-holds (ArgumentBindsInOrder T) (ArgumentBindsInOrder T) (ArgumentBindsInOrder T) op (typed s b e) (typed s (after b e) f) combines
        (in-order s b e (stand-front T b.next (orders_in e) (orders_in f) h))
        (in-order s (after b e) f (stand-next T b.next (after b e).next (orders_in e) (orders_in f) (orders-long b e) h))
    in-order s b (joined at op es) h =
        if-one (EachBindsInOrder T) (ArgumentBindsInOrder T) (λ fs. truth_argument (joined_formula op fs)) (typed_formulas s b es) (joined-in-order op) (formulas-all s b es h)
    in-order s b (shifted at e i) h = shift-in-order i.minus (value_of s i) (typed s b e)
    in-order s b (enclosed at k e) h =
        bracket-holds (ArgumentBindsInOrder T) (ArgumentBindsInOrder T) b k (typed s (opened b k) e) (λ a i. i) (λ t i. tt) (λ f i. i) (λ f i. i)
        (in-order s (opened b k) e (subst (λ n. Stand T n (orders_in e)) (sym (opened-next b k)) h))
    in-order s b (listed at Literal es) h = if-one (λ ts. Unit {0}) (ArgumentBindsInOrder T) (λ ts. set_argument (tree.literal ts)) (typed_numbers s b es) (λ ts trivial. tt) (if-any (typed_numbers s b es))
    in-order s b (listed at (Call n) es) h =
        let parameters = parameters_of (meaning_of s n) in
        if-call (ArgumentBindsInOrder T) (ArgumentsBindInOrder T) (λ p arguments h. h) (meaning_of s n) (count es) (typed_arguments s b parameters es) (arguments-all s b parameters es h)
    in-order s b (quantified at q o vs e) h =
        let next = with_names b (count_of_bounds vs) in
        let end = after_bounds next vs in
        let inner = under_bounds s b.next vs in
        let many = bounds-long vs in
        let rest = stand-next T b.next next.next (orders_of_bounds vs) (orders_in_bounds vs ++ orders_in e) (ap (λ n. b.next + n) (sym many)) h in
        if-one (BindsInOrder T) (ArgumentBindsInOrder T) (λ f. truth_argument f) (typed_quantifiers s b.next next q vs (formula_in (typed inner end e))) (λ f k. k)
        (quantifiers-all s b.next next q vs (formula_in (typed inner end e)) (stand-front T b.next (orders_of_bounds vs) (orders_in_bounds vs ++ orders_in e) h)
        (stand-front T next.next (orders_in_bounds vs) (orders_in e) rest)
        (formula-in-order (typed inner end e) (in-order inner end e (stand-next T next.next end.next (orders_in_bounds vs) (orders_in e) (restrictions-long next vs) rest))))
    in-order s b (let_in at o ps e) h =
        let next = with_names b (count_of_parts ps) in
        let end = after_parts next ps in
        let inner = under_parts s b.next o ps in
        let many = parts-long o ps in
        let rest = stand-next T b.next next.next (orders_of_parts o ps) (orders_in_parts ps ++ orders_in e) (ap (λ n. b.next + n) (sym many)) h in
        if-two (λ sides. ArgumentsBindInOrder T sides × (orders_of_arguments sides ≡ orders_of_parts o ps)) (BindsInOrder T) (ArgumentBindsInOrder T)
        (λ sides f. truth_argument (tree.where_let (numbers_of_parts b.next ps) sides f)) (typed_parts s next o ps) (formula_in (typed inner end e))
        (λ sides f i j. (names-in-order b.next o ps sides i.1 (stand-front T b.next (orders_of_parts o ps) (orders_in_parts ps ++ orders_in e) h), i.0, j))
        (parts-all s next o ps (stand-front T next.next (orders_in_parts ps) (orders_in e) rest))
        (formula-in-order (typed inner end e) (in-order inner end e (stand-next T next.next end.next (orders_in_parts ps) (orders_in e) (sides-long next ps) rest)))

    formulas-all : (s : Scope) (b : Before) (es : Expressions) → Stand T b.next (orders_in_all es) → If (EachBindsInOrder T) (typed_formulas s b es)
    formulas-all s b no_expressions h = tt
    formulas-all s b (and_expression es e) h =
        let end = after_all b es in
        if-two (EachBindsInOrder T) (BindsInOrder T) (EachBindsInOrder T) formula_behind (typed_formulas s b es) (formula_in (typed s end e)) formulas-behind
        (formulas-all s b es (stand-front T b.next (orders_in_all es) (orders_in e) h))
        (formula-in-order (typed s end e) (in-order s end e (stand-next T b.next end.next (orders_in_all es) (orders_in e) (all-long b es) h)))

    arguments-all : (s : Scope) (b : Before) (parameters : List Order) (es : Expressions) → Stand T b.next (orders_in_all es) → If (ArgumentsBindInOrder T) (typed_arguments s b parameters es)
    arguments-all s b parameters no_expressions h = tt
    arguments-all s b parameters (and_expression es e) h =
        let end = after_all b es in
        let o = slice_get parameters (count es) in
        if-two (ArgumentsBindInOrder T) (ArgumentBindsInOrder T) (ArgumentsBindInOrder T) argument_behind (typed_arguments s b parameters es) (argument_for o (typed s end e)) arguments-behind
        (arguments-all s b parameters es (stand-front T b.next (orders_in_all es) (orders_in e) h))
        (argument-in-order o (typed s end e) (in-order s end e (stand-next T b.next end.next (orders_in_all es) (orders_in e) (all-long b es) h)))

    quantifiers-all : (s : Scope) (x : ℕ) (b : Before) (q : Quant) (vs : Variables) (f : Option Form) → Stand T x (orders_of_bounds vs) → Stand T b.next (orders_in_bounds vs) →
        If (BindsInOrder T) f → If (BindsInOrder T) (typed_quantifiers s x b q vs f)
    quantifiers-all s x b q no_variables f own h body = body
    quantifiers-all s x b q (and_variable vs at o n d) f own h body =
        let y = x + count_of_bounds vs in
        let begin = after_bounds b vs in
        let inner = under_bounds s x (and_variable vs at o n d) in
        let last = stand-next T x y (orders_of_bounds vs) (o ∷ []) (ap (λ k. x + k) (sym (bounds-long vs))) own in
        quantifiers-all s x b q vs (quantifier q o y (typed_domain inner begin o y d) f) (stand-front T x (orders_of_bounds vs) (o ∷ []) own)
        (stand-front T b.next (orders_in_bounds vs) (orders_in_domain d) h)
        (if-two (RestrictionBindsInOrder T) (BindsInOrder T) (BindsInOrder T) (λ r g. tree.quantified q o y r g) (typed_domain inner begin o y d) f (λ r g i j. (last.0, i, j))
        (domain-in-order inner begin o y d (stand-next T b.next begin.next (orders_in_bounds vs) (orders_in_domain d) (restrictions-long b vs) h)) body)

    pub domain-in-order : (s : Scope) (b : Before) (o : Order) (x : ℕ) (d : Domain) → Stand T b.next (orders_in_domain d) → If (RestrictionBindsInOrder T) (typed_domain s b o x d)
    domain-in-order s b o x unrestricted h = default-in-order (default_of s o) x
    domain-in-order s b o x (restricted e) h =
        if-one (BindsInOrder T) (RestrictionBindsInOrder T) (λ f. tree.restricted f) (formula_in (typed s b e)) (λ f k. k) (formula-in-order (typed s b e) (in-order s b e h))

    parts-all : (s : Scope) (b : Before) (o : Order) (ps : Parts) → Stand T b.next (orders_in_parts ps) →
        If (λ sides. ArgumentsBindInOrder T sides × (orders_of_arguments sides ≡ orders_of_parts o ps)) (typed_parts s b o ps)
    parts-all s b o no_parts h = (tt, refl)
    parts-all s b o (and_part ps at n e) h =
        let end = after_parts b ps in
        if-two (λ sides. ArgumentsBindInOrder T sides × (orders_of_arguments sides ≡ orders_of_parts o ps)) (IsSide o)
        (λ sides. ArgumentsBindInOrder T sides × (orders_of_arguments sides ≡ orders_of_parts o (and_part ps at n e))) argument_behind
        (typed_parts s b o ps) (option_and_then (of_order o) (typed s end e))
        (λ sides a i j. (arguments-behind sides a i.0 j.0, orders-behind sides a ∙ (ap (λ os. os ++ order_of_argument a ∷ []) i.1 ∙ ap (λ p. orders_of_parts o ps ++ p ∷ []) j.1)))
        (parts-all s b o ps (stand-front T b.next (orders_in_parts ps) (orders_in e) h))
        (side-in-order o (typed s end e) (in-order s end e (stand-next T b.next end.next (orders_in_parts ps) (orders_in e) (sides-long b ps) h)))
