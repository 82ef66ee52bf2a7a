-- Where nothing is wrong, exports stand where they may.
use Rattle.std.proofs.Common.{◌≡◌, ℕ, ◌+◌, ◌≤◌, Bool, true, false, List, [], ◌∷◌, ◌++◌, Option, Some, None, refl, arith}
use Rattle.std.specs.Prelude.{flat_map}
use Rattle.std.specs.Option.{option_map}
use Rattle.ms_logic.specs.declared.mode.Order.{Order}
use Rattle.ms_logic.specs.declared.mode.Order.TheVariants.{Zero, One, Two}
use Rattle.ms_logic.specs.declared.mode.Quant.{Quant}
use Rattle.ms_logic.specs.Tree as tree
use Rattle.ms_logic.specs.Tree.{Argument, truth_argument, number_argument, set_argument, Arguments, Form, Forms}
use Rattle.ms_names_rules.specs.declared.meaning.Meaning.{Meaning}
use Rattle.ms_names_rules.specs.declared.meaning.Meaning.TheVariants as meaning
use Rattle.ms_names_rules.specs.declared.wanted.Wanted.{Wanted}
use Rattle.ms_parse_grammar.specs.Tree.{truth, falsity, whole, empty_set, named, numeral, pconst, imported, Expression, atom, prefixed, binary, joined, shifted, enclosed, listed, quantified, let_in, Expressions, no_expressions, and_expression, Variables, no_variables, and_variable, Atom}
use Rattle.ms_parse_grammar.specs.declared.operator.Junction.TheVariants.{Conjunction, Disjunction}
use Rattle.ms_parse_grammar.specs.declared.operator.Listing.TheVariants.{Literal, Call}
use Rattle.ms_names_rules.specs.Before.{Before, with_names, after, after_all, after_bounds, after_domain, after_parts, opened}
use Rattle.ms_names_rules.specs.Constant.{value_of}
use Rattle.ms_names_rules.specs.Numbers.{CountUp, exports_in, exports_in_arguments, exports_in_restriction}
use Rattle.ms_names_rules.specs.Order.{formula_wanted, content_wanted, left_wanted, operand_wanted, order_of, parameters_of, right_wanted}
use Rattle.ms_names_rules.specs.Occurrence.{standing, occurrences, inside, inside_operands, inside_bounds, inside_domain}
use Rattle.ms_names_rules.specs.Rules.{faults_at}
use Rattle.ms_names_rules.specs.Scope.{Scope, count_of_bounds, count_of_parts, meaning_of, under_bounds, under_parts, without_exports, count}
use Rattle.ms_names_rules.specs.Typed.{both, formula_in, numbers_of_parts, typed, typed_arguments, typed_call, typed_domain, typed_formulas, typed_name, typed_numbers, typed_parts, typed_quantifiers, typed_shift, variable_argument, as_many, formula_behind, joined_formula, typed_atom, quantifier}
use Rattle.ms_names_rules.proofs.ExportNumbers.{ArgumentCounts, domain-count, exports-count}
use Rattle.ms_names_rules.proofs.Fitting.{If, if-any, if-one, if-weaker}
use Rattle.ms_names_rules.proofs.NoExports.{domain-none, none-exported}
use Rattle.ms_names_rules.proofs.Numbering.{if-two}
use Rattle.ms_names_rules.proofs.Orders.{AreRight, back-empty, front-empty, right-back, right-front}
use Rattle.ms_names_checked.specs.Exports.{HasExportsInPlace, HaveExportsInPlace}
use Rattle.ms_names_checked.proofs.OfOrders.{if-formula}
use Rattle.ms_names_checked.proofs.Operators.{Combines, bracket-holds, prefix-holds, binary-holds}
use Rattle.ms_parse_grammar.specs.declared.operator.Junction.{Junction}

abbrev pub IsInPlace : Argument → Type 0
IsInPlace (truth_argument f) = HasExportsInPlace f
IsInPlace (number_argument t) = Unit {0}
IsInPlace (set_argument s) = Unit {0}

-- numbers that count up to where they begin are none

count-grows : (n m : ℕ) (xs : List ℕ) → CountUp n xs m → n ≤ m
count-grows n m [] h = omega (arith, h)
count-grows n m (x ∷ xs) h = let rest = count-grows (n + 1) m xs h.1 in omega (arith, rest)

count-none : (n m : ℕ) (xs : List ℕ) → m ≡ n → CountUp n xs m → xs ≡ []
count-none n m [] same h = refl
count-none n m (x ∷ xs) same h = let rest = count-grows (n + 1) m xs h.1 in absurd (omega (arith, rest, same))

pub inside-right : (s : Scope) (b : Before) (w : Wanted) (e : Expression) → AreRight (occurrences s b w e) → AreRight (inside s b e)
inside-right s b w e h = back-empty (faults_at (standing s b w e)) (flat_map faults_at (inside s b e)) h

pub formula-in-place : (a : Option Argument) → If IsInPlace a → If HasExportsInPlace (formula_in a)
formula-in-place = if-formula IsInPlace

variable-in-place : (x : ℕ) (o : Order) → IsInPlace (variable_argument x o)
variable-in-place x Zero = tt
variable-in-place x One = tt
variable-in-place x Two = tt

name-in-place : (m : Option Meaning) → If IsInPlace (typed_name m)
name-in-place None = tt
name-in-place (Some (meaning.Variable x o)) = variable-in-place x o
name-in-place (Some (meaning.Constant value)) = tt
name-in-place (Some (meaning.Predicate p [])) = refl
name-in-place (Some (meaning.Predicate p (o ∷ parameters))) = tt

shift-in-place : (minus : Bool) (n : Option ℕ) (a : Option Argument) → If IsInPlace (typed_shift minus n a)
shift-in-place minus None a = tt
shift-in-place minus (Some n) None = tt
shift-in-place minus (Some n) (Some (truth_argument f)) = tt
shift-in-place true (Some n) (Some (number_argument t)) = tt
shift-in-place false (Some n) (Some (number_argument t)) = tt
shift-in-place true (Some n) (Some (set_argument s)) = tt
shift-in-place false (Some n) (Some (set_argument s)) = tt

given-in-place : (n m p : ℕ) (given : Option Arguments) → m ≡ n → If (ArgumentCounts n m) (option_map (λ arguments. truth_argument (tree.call p arguments)) given) →
    If IsInPlace (option_map (λ arguments. truth_argument (tree.call p arguments)) given)
given-in-place n m p None same h = tt
given-in-place n m p (Some arguments) same h = count-none n m (exports_in_arguments arguments) same h

call-in-place : (n k : ℕ) (m : Option Meaning) (given : Option Arguments) → k ≡ n → If (ArgumentCounts n k) (typed_call m given) → If IsInPlace (typed_call m given)
call-in-place n k None given same h = tt
call-in-place n k (Some (meaning.Variable x o)) given same h = tt
call-in-place n k (Some (meaning.Constant value)) given same h = tt
call-in-place n k (Some (meaning.Predicate p parameters)) given same h = given-in-place n k p given same h

let-in-place : (n m : ℕ) (xs : List ℕ) (sides : Option Arguments) (f : Option Form) → m ≡ n →
    If (ArgumentCounts n m) (both (λ right_sides body. truth_argument (tree.where_let xs right_sides body)) sides f) →
    If IsInPlace (both (λ right_sides body. truth_argument (tree.where_let xs right_sides body)) sides f)
let-in-place n m xs None f same h = tt
let-in-place n m xs (Some sides) None same h = tt
let-in-place n m xs (Some sides) (Some f) same h =
    let none = count-none n m (exports_in_arguments sides ++ exports_in f) same h in
    (front-empty (exports_in_arguments sides) (exports_in f) none, back-empty (exports_in_arguments sides) (exports_in f) none)

atom-in-place : (s : Scope) (b : Before) (a : Atom) → If IsInPlace (typed_atom s b a)
atom-in-place s b truth = tt
atom-in-place s b falsity = tt
atom-in-place s b whole = tt
atom-in-place s b empty_set = tt
atom-in-place s b (named n) = name-in-place (meaning_of s n)
atom-in-place s b (numeral n) = tt
atom-in-place s b (pconst i) = if-one (λ k. Unit {0}) IsInPlace (λ k. set_argument (tree.pconst k)) (value_of s i) (λ k trivial. tt) (if-any (value_of s i))
atom-in-place s b (imported file rs) = tt

joined-in-place : (op : Junction) (fs : Forms) → HaveExportsInPlace fs → HasExportsInPlace (joined_formula op fs)
joined-in-place Conjunction fs h = h
joined-in-place Disjunction fs h = h

formulas-behind : (fs : Forms) (f : Form) → HaveExportsInPlace fs → HasExportsInPlace f → HaveExportsInPlace (formula_behind fs f)
formulas-behind tree.no_forms f h k = (k, tt)
formulas-behind (tree.more_forms first fs) f h k = (h.0, formulas-behind fs f h.1 k)

combines : Combines IsInPlace IsInPlace IsInPlace
combines = record {
  implied = λ f g i j. (i, j);
  equated = λ f g i j. (i, j);
  numbers = λ p is t u i j. tt;
  sets = λ p is t u i j. tt;
  members = λ positive t u i j. tt;
  united = λ t u i j. tt;
  met = λ t u i j. tt;
  left = λ t u i j. tt;
}

mutual
  pub in-place : (s : Scope) (b : Before) (w : Wanted) (e : Expression) → AreRight (occurrences s b w e) → If IsInPlace (typed s b e)
  in-place s b w (atom at a) h = atom-in-place s b a
  in-place s b w (prefixed at op e) h =
      prefix-holds IsInPlace IsInPlace op (typed s b e) (λ f k. k) (λ t k. tt) (λ t k. tt) (in-place s b (operand_wanted op) e (inside-right s b w (prefixed at op e) h))
  in-place s b w (binary at op e f) h =
      let os = occurrences s b (left_wanted op) e in
      let ps = occurrences s (after b e) (right_wanted op (order_of s e)) f in
      let all = inside-right s b w (binary at op e f) h in
      binary-holds IsInPlace IsInPlace IsInPlace op (typed s b e) (typed s (after b e) f) combines
      (in-place s b (left_wanted op) e (right-front os ps all)) (in-place s (after b e) (right_wanted op (order_of s e)) f (right-back os ps all))
  in-place s b w (joined at op es) h =
      if-one HaveExportsInPlace IsInPlace (λ fs. truth_argument (joined_formula op fs)) (typed_formulas s b es) (joined-in-place op)
      (formulas-all s b es (inside-right s b w (joined at op es) h))
  in-place s b w (shifted at e i) h = shift-in-place i.minus (value_of s i) (typed s b e)
  in-place s b w (enclosed at k e) h =
      bracket-holds IsInPlace IsInPlace b k (typed s (opened b k) e) (λ a i. i) (λ t i. tt) (λ f i. i) (λ f i. i)
      (in-place s (opened b k) (content_wanted k) e (inside-right s b w (enclosed at k e) h))
  in-place s b w (listed at Literal es) h = if-one (λ ts. Unit {0}) IsInPlace (λ ts. set_argument (tree.literal ts)) (typed_numbers s b es) (λ ts trivial. tt) (if-any (typed_numbers s b es))
  in-place s b w (listed at (Call n) es) h =
      let parameters = parameters_of (meaning_of s n) in
      call-in-place b.exports (after_all b es).exports (meaning_of s n) (as_many (count es) parameters (typed_arguments s b parameters es))
      (none-exported (without_exports s) b w (listed at (Call n) es) refl h) (exports-count s b (listed at (Call n) es))
  in-place s b w (quantified at q o vs e) h =
      let next = with_names b (count_of_bounds vs) in
      let end = after_bounds next vs in
      let inner = under_bounds s b.next vs in
      let before = inside_bounds s b.next next vs in
      let within = occurrences inner end formula_wanted e in
      let all = inside-right s b w (quantified at q o vs e) h in
      if-one HasExportsInPlace IsInPlace (λ f. truth_argument f) (typed_quantifiers s b.next next q vs (formula_in (typed inner end e))) (λ f k. k)
      (quantifiers-all s b.next next q vs (formula_in (typed inner end e)) (right-front before within all)
      (formula-in-place (typed inner end e) (in-place inner end formula_wanted e (right-back before within all))))
  in-place s b w (let_in at o ps e) h =
      let next = with_names b (count_of_parts ps) in
      let end = after_parts next ps in
      let plain = under_parts s b.next o ps in
      let-in-place b.exports (after end e).exports (numbers_of_parts b.next ps) (typed_parts s next o ps) (formula_in (typed plain end e))
      (none-exported (without_exports s) b w (let_in at o ps e) refl h) (exports-count s b (let_in at o ps e))

  formulas-all : (s : Scope) (b : Before) (es : Expressions) → AreRight (inside_operands s b formula_wanted es) → If HaveExportsInPlace (typed_formulas s b es)
  formulas-all s b no_expressions h = tt
  formulas-all s b (and_expression es e) h =
      let end = after_all b es in
      let os = inside_operands s b formula_wanted es in
      let ps = occurrences s end formula_wanted e in
      if-two HaveExportsInPlace HasExportsInPlace HaveExportsInPlace formula_behind (typed_formulas s b es) (formula_in (typed s end e)) formulas-behind
      (formulas-all s b es (right-front os ps h)) (formula-in-place (typed s end e) (in-place s end formula_wanted e (right-back os ps h)))

  quantifiers-all : (s : Scope) (x : ℕ) (b : Before) (q : Quant) (vs : Variables) (f : Option Form) → AreRight (inside_bounds s x b vs) → If HasExportsInPlace f →
      If HasExportsInPlace (typed_quantifiers s x b q vs f)
  quantifiers-all s x b q no_variables f h body = body
  quantifiers-all s x b q (and_variable vs at o n d) f h body =
      let y = x + count_of_bounds vs in
      let begin = after_bounds b vs in
      let end = after_domain begin d in
      let inner = under_bounds s x (and_variable vs at o n d) in
      let before = inside_bounds s x b vs in
      let here = inside_domain (without_exports inner) begin d in
      quantifiers-all s x b q vs (quantifier q o y (typed_domain inner begin o y d) f) (right-front before here h)
      (if-two (λ r. exports_in_restriction r ≡ []) HasExportsInPlace HasExportsInPlace (λ r g. tree.quantified q o y r g) (typed_domain inner begin o y d) f (λ r g i j. (i, j))
      (if-weaker (λ r. CountUp begin.exports (exports_in_restriction r) end.exports) (λ r. exports_in_restriction r ≡ []) (typed_domain inner begin o y d)
      (λ r counts. count-none begin.exports end.exports (exports_in_restriction r) (domain-none (without_exports inner) begin d refl (right-back before here h)) counts)
      (domain-count inner begin o y d)) body)
