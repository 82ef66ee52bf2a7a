-- Where nothing is wrong with an expression, its constants are in range and its relations stand between what they are for.
use Rattle.std.proofs.Common.{◌≡◌, ℕ, ◌+◌, ◌≤◌, Bool, true, false, nat_lt, List, [], ◌∷◌, Option, Some, None, refl, subst, ◌∙◌, arith, slice_get}
use Rattle.std.specs.Prelude.{flat_map}
use Rattle.std.specs.Option.{option_and_then}
use Rattle.std.proofs.lemmas.Bool.Decides.{nat_tests}
use Rattle.ms_list.specs.declared.at.At.{At as Place}
use Rattle.ms_logic.specs.declared.mode.Mode.{Mode}
use Rattle.ms_logic.specs.declared.mode.Mode.TheVariants.{Ws1s, M2lStr}
use Rattle.ms_logic.specs.declared.mode.Order.{Order}
use Rattle.ms_logic.specs.declared.mode.Order.TheVariants.{Zero, One, Two}
use Rattle.ms_logic.specs.declared.mode.Quant.{Quant}
use Rattle.ms_logic.specs.Tree as tree
use Rattle.ms_logic.specs.Tree.{Argument, truth_argument, number_argument, set_argument, Arguments, Form, Forms, Term, Terms}
use Rattle.ms_names_rules.specs.declared.fault.Fault.{Fault}
use Rattle.ms_names_rules.specs.declared.meaning.Meaning.{Meaning}
use Rattle.ms_names_rules.specs.declared.meaning.Meaning.TheVariants as meaning
use Rattle.ms_names_rules.specs.declared.wanted.Wanted.{Wanted}
use Rattle.ms_names_rules.specs.declared.wanted.Wanted.TheVariants.{Exactly, NumberOrSet}
use Rattle.ms_parse_grammar.specs.Tree.{truth, falsity, whole, empty_set, named, numeral, pconst, imported, Expression, atom, prefixed, binary, joined, shifted, enclosed, listed, quantified, let_in, Expressions, no_expressions, and_expression, Variables, no_variables, and_variable, Domain, unrestricted, restricted, Parts, no_parts, and_part, Atom}
use Rattle.ms_parse_grammar.specs.declared.operator.Junction.TheVariants.{Conjunction, Disjunction}
use Rattle.ms_parse_grammar.specs.declared.operator.Listing.TheVariants.{Literal, Call}
use Rattle.ms_names_rules.specs.Scope.{Bytes, Scope, count_of_bounds, count_of_parts, default_of, meaning_of, under_bounds, under_parts, without_exports, count}
use Rattle.ms_names_rules.specs.Before.{Before, with_names, after, after_bounds, after_parts, after_all, opened}
use Rattle.ms_names_rules.specs.Constant.{greatest_in_terms, value_of}
use Rattle.ms_names_rules.specs.Order.{formula_wanted, number_wanted, order_of, parameters_of, content_wanted, left_wanted, operand_wanted, right_wanted, wanted_by}
use Rattle.ms_names_rules.specs.Occurrence.{standing, occurrences, inside, inside_operands, inside_arguments, inside_bounds, inside_domain, inside_parts}
use Rattle.ms_names_rules.specs.Rules.{faults_at, faults_of_form, faults_of_name, faults_of_offset, faults_of_order, faults_of_placed, faults_of_whole, in_case}
use Rattle.ms_names_rules.specs.Typed.{default_restriction, formula_in, number_in, numbers_of_parts, of_order, typed, typed_arguments, typed_domain, typed_formulas, typed_name, typed_numbers, typed_parts, typed_quantifiers, typed_shift, variable_argument, argument_behind, argument_for, formula_behind, joined_formula, number_behind, typed_atom, quantifier}
use Rattle.ms_names_rules.proofs.Exports.{typed-same, under_parts-same}
use Rattle.ms_names_rules.proofs.Fitting.{If, if-any, if-one}
use Rattle.ms_names_rules.proofs.Numbering.{if-two}
use Rattle.ms_names_rules.proofs.Orders.{AreRight, back-empty, front-empty, right-back, right-front}
use Rattle.ms_names_checked.specs.Constants.{AreArgumentsInRange, AreInRange, AreTermsInRange, HasWhole, IsArgumentInRange, IsInRange, IsRestrictionInRange, IsTermInRange}
use Rattle.ms_names_checked.proofs.InPlace.{inside-right}
use Rattle.ms_names_checked.proofs.OfOrders.{if-call, if-formula, if-number, if-order}
use Rattle.ms_names_checked.proofs.Operators.{Combines, bracket-holds, prefix-holds, binary-holds}
use Rattle.ms_parse_grammar.specs.declared.operator.Junction.{Junction}

form-right : (s : Scope) (b : Before) (w : Wanted) (e : Expression) → AreRight (occurrences s b w e) → faults_of_form s e ≡ []
form-right s b w e h = back-empty (faults_of_order s w e) (faults_of_form s e) (front-empty (faults_at (standing s b w e)) (flat_map faults_at (inside s b e)) h)

-- the mode is the same in each scope

pub mode-bounds : (s : Scope) (x : ℕ) (vs : Variables) → (under_bounds s x vs).mode ≡ s.mode
mode-bounds s x no_variables = refl
mode-bounds s x (and_variable vs at o n d) = mode-bounds s x vs

mode-parts : (s : Scope) (x : ℕ) (o : Order) (ps : Parts) → (under_parts s x o ps).mode ≡ s.mode
mode-parts s x o no_parts = refl
mode-parts s x o (and_part ps at n e) = mode-parts s x o ps

-- constants

small : (n : ℕ) (f : Fault) (b : Bool) → nat_lt greatest_in_terms n ≡ b → in_case b f ≡ [] → n ≤ greatest_in_terms
small n f true test h = absurd (cc)
small n f false test h = grind (arith, nat_tests)

whole-allowed : (mode : Mode) (at : Place) → faults_of_whole mode at ≡ [] → HasWhole mode
whole-allowed Ws1s at h = absurd (cc)
whole-allowed M2lStr at h = tt

module _ (mode : Mode) where
  pub formula-in-range : (a : Option Argument) → If (IsArgumentInRange mode) a → If (IsInRange mode) (formula_in a)
  formula-in-range = if-formula (IsArgumentInRange mode)

  order-in-range : (o : Order) (a : Option Argument) → If (IsArgumentInRange mode) a → If (IsArgumentInRange mode) (option_and_then (of_order o) a)
  order-in-range = if-order (IsArgumentInRange mode) (λ o. IsArgumentInRange mode) (λ f h. h) (λ t h. h) (λ s h. h)

  variable-in-range : (x : ℕ) (o : Order) → IsArgumentInRange mode (variable_argument x o)
  variable-in-range x Zero = tt
  variable-in-range x One = tt
  variable-in-range x Two = tt

  name-in-range : (at : Place) (n : Bytes) (m : Option Meaning) → faults_of_name at n m ≡ [] → If (IsArgumentInRange mode) (typed_name m)
  name-in-range at n None h = tt
  name-in-range at n (Some (meaning.Variable x o)) h = variable-in-range x o
  name-in-range at n (Some (meaning.Constant value)) h = small value _ (nat_lt greatest_in_terms value) refl h
  name-in-range at n (Some (meaning.Predicate p [])) h = tt
  name-in-range at n (Some (meaning.Predicate p (o ∷ parameters))) h = tt

  shift-in-range : (at : Place) (minus : Bool) (n : Option ℕ) (a : Option Argument) → faults_of_offset at n ≡ [] → If (IsArgumentInRange mode) a →
      If (IsArgumentInRange mode) (typed_shift minus n a)
  shift-in-range at minus None a right h = tt
  shift-in-range at minus (Some n) None right h = tt
  shift-in-range at minus (Some n) (Some (truth_argument f)) right h = tt
  shift-in-range at true (Some n) (Some (number_argument t)) right h = (h, small n _ (nat_lt greatest_in_terms n) refl right)
  shift-in-range at false (Some n) (Some (number_argument t)) right h = (h, small n _ (nat_lt greatest_in_terms n) refl right)
  shift-in-range at true (Some n) (Some (set_argument s)) right h = (h, small n _ (nat_lt greatest_in_terms n) refl right)
  shift-in-range at false (Some n) (Some (set_argument s)) right h = (h, small n _ (nat_lt greatest_in_terms n) refl right)

  argument-in-range : (o : Option Order) (a : Option Argument) → If (IsArgumentInRange mode) a → If (IsArgumentInRange mode) (argument_for o a)
  argument-in-range None a h = tt
  argument-in-range (Some o) a h = order-in-range o a h

  -- lists with one more behind

  terms-behind : (ts : Terms) (t : Term) → AreTermsInRange mode ts → IsTermInRange mode t → AreTermsInRange mode (number_behind ts t)
  terms-behind tree.no_terms t h k = (k, tt)
  terms-behind (tree.more_terms first ts) t h k = (h.0, terms-behind ts t h.1 k)

  formulas-behind : (fs : Forms) (f : Form) → AreInRange mode fs → IsInRange mode f → AreInRange mode (formula_behind fs f)
  formulas-behind tree.no_forms f h k = (k, tt)
  formulas-behind (tree.more_forms first fs) f h k = (h.0, formulas-behind fs f h.1 k)

  arguments-behind : (given : Arguments) (a : Argument) → AreArgumentsInRange mode given → IsArgumentInRange mode a → AreArgumentsInRange mode (argument_behind given a)
  arguments-behind tree.no_arguments a h k = (k, tt)
  arguments-behind (tree.more_arguments first more) a h k = (h.0, arguments-behind more a h.1 k)

  default-in-range : (d : Option ℕ) (x : ℕ) → IsRestrictionInRange mode (default_restriction d x)
  default-in-range None x = tt
  default-in-range (Some p) x = tt

  atom-in-range : (s : Scope) (b : Before) (w : Wanted) (at : Place) (a : Atom) → s.mode ≡ mode → faults_of_form s (atom at a) ≡ [] → If (IsArgumentInRange mode) (typed_atom s b a)
  atom-in-range s b w at truth is right = tt
  atom-in-range s b w at falsity is right = tt
  atom-in-range s b w at whole is right = subst (λ m. HasWhole m) is (whole-allowed s.mode at right)
  atom-in-range s b w at empty_set is right = tt
  atom-in-range s b w at (named n) is right = name-in-range at n (meaning_of s n) right
  atom-in-range s b w at (numeral n) is right = small n _ (nat_lt greatest_in_terms n) refl right
  atom-in-range s b w at (pconst i) is right =
      if-one (λ k. Unit {0}) (IsArgumentInRange mode) (λ k. set_argument (tree.pconst k)) (value_of s i) (λ k trivial. tt) (if-any (value_of s i))
  atom-in-range s b w at (imported file rs) is right = tt

  joined-in-range : (op : Junction) (fs : Forms) → AreInRange mode fs → IsInRange mode (joined_formula op fs)
  joined-in-range Conjunction fs h = h
  joined-in-range Disjunction fs h = h

  combines : Combines (IsArgumentInRange mode) (IsArgumentInRange mode) (IsArgumentInRange mode)
  combines = record {
    implied = λ f g i j. (i, j);
    equated = λ f g i j. (i, j);
    numbers = λ p related t u i j. (related, i, j);
    sets = λ p related t u i j. (related, i, j);
    members = λ positive t u i j. (i, j);
    united = λ t u i j. (i, j);
    met = λ t u i j. (i, j);
    left = λ t u i j. (i, j);
  }

  mutual
    pub in-range : (s : Scope) (b : Before) (w : Wanted) (e : Expression) → s.mode ≡ mode → AreRight (occurrences s b w e) → If (IsArgumentInRange mode) (typed s b e)
    in-range s b w (atom at a) is h = atom-in-range s b w at a is (form-right s b w (atom at a) h)
    in-range s b w (prefixed at op e) is h =
        prefix-holds (IsArgumentInRange mode) (IsArgumentInRange mode) op (typed s b e) (λ f k. k) (λ t k. k) (λ t k. k)
        (in-range s b (operand_wanted op) e is (inside-right s b w (prefixed at op e) h))
    in-range s b w (binary at op e f) is h =
        let os = occurrences s b (left_wanted op) e in
        let ps = occurrences s (after b e) (right_wanted op (order_of s e)) f in
        let all = inside-right s b w (binary at op e f) h in
        binary-holds (IsArgumentInRange mode) (IsArgumentInRange mode) (IsArgumentInRange mode) op (typed s b e) (typed s (after b e) f) combines
        (in-range s b (left_wanted op) e is (right-front os ps all)) (in-range s (after b e) (right_wanted op (order_of s e)) f is (right-back os ps all))
    in-range s b w (joined at op es) is h =
        if-one (AreInRange mode) (IsArgumentInRange mode) (λ fs. truth_argument (joined_formula op fs)) (typed_formulas s b es) (joined-in-range op)
        (formulas-all s b es is (inside-right s b w (joined at op es) h))
    in-range s b w (shifted at e i) is h =
        shift-in-range i.at i.minus (value_of s i) (typed s b e) (back-empty (faults_of_placed s i) (faults_of_offset i.at (value_of s i)) (form-right s b w (shifted at e i) h))
        (in-range s b NumberOrSet e is (inside-right s b w (shifted at e i) h))
    in-range s b w (enclosed at k e) is h =
        bracket-holds (IsArgumentInRange mode) (IsArgumentInRange mode) b k (typed s (opened b k) e) (λ a i. i) (λ t i. i) (λ f i. i) (λ f i. i)
        (in-range s (opened b k) (content_wanted k) e is (inside-right s b w (enclosed at k e) h))
    in-range s b w (listed at Literal es) is h =
        if-one (AreTermsInRange mode) (IsArgumentInRange mode) (λ ts. set_argument (tree.literal ts)) (typed_numbers s b es) (λ ts k. k) (numbers-all s b es is (inside-right s b w (listed at Literal es) h))
    in-range s b w (listed at (Call n) es) is h =
        let parameters = parameters_of (meaning_of s n) in
        if-call (IsArgumentInRange mode) (AreArgumentsInRange mode) (λ p arguments h. h) (meaning_of s n) (count es) (typed_arguments s b parameters es) (arguments-all s b parameters es is (inside-right s b w (listed at (Call n) es) h))
    in-range s b w (quantified at q o vs e) is h =
        let next = with_names b (count_of_bounds vs) in
        let end = after_bounds next vs in
        let inner = under_bounds s b.next vs in
        let before = inside_bounds s b.next next vs in
        let within = occurrences inner end formula_wanted e in
        let all = inside-right s b w (quantified at q o vs e) h in
        if-one (IsInRange mode) (IsArgumentInRange mode) (λ f. truth_argument f) (typed_quantifiers s b.next next q vs (formula_in (typed inner end e))) (λ f k. k)
        (quantifiers-all s b.next next q vs (formula_in (typed inner end e)) is (right-front before within all)
        (formula-in-range (typed inner end e) (in-range inner end formula_wanted e (mode-bounds s b.next vs ∙ is) (right-back before within all))))
    in-range s b w (let_in at o ps e) is h =
        let next = with_names b (count_of_parts ps) in
        let end = after_parts next ps in
        let outer = without_exports s in
        let inner = under_parts outer b.next o ps in
        let plain = under_parts s b.next o ps in
        let before = inside_parts outer next o ps in
        let within = occurrences inner end formula_wanted e in
        let all = inside-right s b w (let_in at o ps e) h in
        if-two (AreArgumentsInRange mode) (IsInRange mode) (IsArgumentInRange mode) (λ sides f. truth_argument (tree.where_let (numbers_of_parts b.next ps) sides f)) (typed_parts s next o ps) (formula_in (typed plain end e))
        (λ sides f i j. (i, j)) (parts-all s next o ps is (right-front before within all))
        (formula-in-range (typed plain end e) (subst (λ a. If (IsArgumentInRange mode) a) (typed-same inner plain end e (under_parts-same outer s b.next o ps refl))
        (in-range inner end formula_wanted e (mode-parts outer b.next o ps ∙ is) (right-back before within all))))

    numbers-all : (s : Scope) (b : Before) (es : Expressions) → s.mode ≡ mode → AreRight (inside_operands s b number_wanted es) → If (AreTermsInRange mode) (typed_numbers s b es)
    numbers-all s b no_expressions is h = tt
    numbers-all s b (and_expression es e) is h =
        let end = after_all b es in
        let os = inside_operands s b number_wanted es in
        let ps = occurrences s end number_wanted e in
        if-two (AreTermsInRange mode) (IsTermInRange mode) (AreTermsInRange mode) number_behind (typed_numbers s b es) (number_in (typed s end e)) terms-behind
        (numbers-all s b es is (right-front os ps h)) (if-number (IsArgumentInRange mode) (typed s end e) (in-range s end number_wanted e is (right-back os ps h)))

    formulas-all : (s : Scope) (b : Before) (es : Expressions) → s.mode ≡ mode → AreRight (inside_operands s b formula_wanted es) → If (AreInRange mode) (typed_formulas s b es)
    formulas-all s b no_expressions is h = tt
    formulas-all s b (and_expression es e) is h =
        let end = after_all b es in
        let os = inside_operands s b formula_wanted es in
        let ps = occurrences s end formula_wanted e in
        if-two (AreInRange mode) (IsInRange mode) (AreInRange mode) formula_behind (typed_formulas s b es) (formula_in (typed s end e)) formulas-behind
        (formulas-all s b es is (right-front os ps h)) (formula-in-range (typed s end e) (in-range s end formula_wanted e is (right-back os ps h)))

    arguments-all : (s : Scope) (b : Before) (parameters : List Order) (es : Expressions) → s.mode ≡ mode → AreRight (inside_arguments (without_exports s) b parameters es) →
        If (AreArgumentsInRange mode) (typed_arguments s b parameters es)
    arguments-all s b parameters no_expressions is h = tt
    arguments-all s b parameters (and_expression es e) is h =
        let end = after_all b es in
        let outer = without_exports s in
        let o = slice_get parameters (count es) in
        let os = inside_arguments outer b parameters es in
        let ps = occurrences outer end (wanted_by o) e in
        if-two (AreArgumentsInRange mode) (IsArgumentInRange mode) (AreArgumentsInRange mode) argument_behind (typed_arguments s b parameters es) (argument_for o (typed s end e)) arguments-behind
        (arguments-all s b parameters es is (right-front os ps h))
        (argument-in-range o (typed s end e) (subst (λ a. If (IsArgumentInRange mode) a) (typed-same outer s end e refl) (in-range outer end (wanted_by o) e is (right-back os ps h))))

    quantifiers-all : (s : Scope) (x : ℕ) (b : Before) (q : Quant) (vs : Variables) (f : Option Form) → s.mode ≡ mode → AreRight (inside_bounds s x b vs) → If (IsInRange mode) f →
        If (IsInRange mode) (typed_quantifiers s x b q vs f)
    quantifiers-all s x b q no_variables f is h body = body
    quantifiers-all s x b q (and_variable vs at o n d) f is h body =
        let y = x + count_of_bounds vs in
        let begin = after_bounds b vs in
        let inner = under_bounds s x (and_variable vs at o n d) in
        let os = inside_bounds s x b vs in
        let ps = inside_domain (without_exports inner) begin d in
        quantifiers-all s x b q vs (quantifier q o y (typed_domain inner begin o y d) f) is (right-front os ps h)
        (if-two (IsRestrictionInRange mode) (IsInRange mode) (IsInRange mode) (λ r g. tree.quantified q o y r g) (typed_domain inner begin o y d) f (λ r g i j. (i, j))
        (domain-in-range inner begin o y d (mode-bounds s x (and_variable vs at o n d) ∙ is) (right-back os ps h)) body)

    pub domain-in-range : (s : Scope) (b : Before) (o : Order) (x : ℕ) (d : Domain) → s.mode ≡ mode → AreRight (inside_domain (without_exports s) b d) →
        If (IsRestrictionInRange mode) (typed_domain s b o x d)
    domain-in-range s b o x unrestricted is h = default-in-range (default_of s o) x
    domain-in-range s b o x (restricted e) is h =
        if-one (IsInRange mode) (IsRestrictionInRange mode) (λ f. tree.restricted f) (formula_in (typed s b e)) (λ f k. k)
        (formula-in-range (typed s b e) (subst (λ a. If (IsArgumentInRange mode) a) (typed-same (without_exports s) s b e refl) (in-range (without_exports s) b formula_wanted e is h)))

    parts-all : (s : Scope) (b : Before) (o : Order) (ps : Parts) → s.mode ≡ mode → AreRight (inside_parts (without_exports s) b o ps) → If (AreArgumentsInRange mode) (typed_parts s b o ps)
    parts-all s b o no_parts is h = tt
    parts-all s b o (and_part parts at n e) is h =
        let end = after_parts b parts in
        let outer = without_exports s in
        let os = inside_parts outer b o parts in
        let ps = occurrences outer end (Exactly o) e in
        if-two (AreArgumentsInRange mode) (IsArgumentInRange mode) (AreArgumentsInRange mode) argument_behind (typed_parts s b o parts) (option_and_then (of_order o) (typed s end e)) arguments-behind
        (parts-all s b o parts is (right-front os ps h))
        (order-in-range o (typed s end e) (subst (λ a. If (IsArgumentInRange mode) a) (typed-same outer s end e refl) (in-range outer end (Exactly o) e is (right-back os ps h))))
