-- What an expression becomes does not depend on whether exports may stand there.
use Rattle.std.proofs.Common.{◌≡◌, ℕ, ◌+◌, List, Option, Some, refl, ap, ◌∙◌, slice_get}
use Rattle.std.specs.Option.{option_map, option_and_then}
use Rattle.ms_logic.specs.declared.mode.Order.{Order}
use Rattle.ms_logic.specs.declared.mode.Order.TheVariants.{Zero, One, Two}
use Rattle.ms_logic.specs.declared.mode.Quant.{Quant}
use Rattle.ms_logic.specs.declared.source.Int.{Int}
use Rattle.ms_logic.specs.declared.source.Int.TheVariants.{Number, Constant}
use Rattle.ms_logic.specs.Tree as tree
use Rattle.ms_logic.specs.Tree.{Form}
use Rattle.ms_names_rules.specs.declared.meaning.Meaning.TheVariants as meaning
use Rattle.ms_parse_grammar.specs.Tree.{truth, falsity, whole, empty_set, named, numeral, pconst, imported, Expression, atom, prefixed, binary, joined, shifted, enclosed, listed, quantified, let_in, Expressions, no_expressions, and_expression, Variables, no_variables, and_variable, Domain, unrestricted, restricted, Parts, no_parts, and_part, Atom}
use Rattle.ms_parse_grammar.specs.declared.operator.Listing.TheVariants.{Literal, Call}
use Rattle.ms_names_rules.specs.Before.{Before, with_names, after, after_bounds, after_parts, after_all, opened}
use Rattle.ms_names_rules.specs.Constant.{value_of_int}
use Rattle.ms_names_rules.specs.Scope.{Scope, bind, count_of_bounds, count_of_parts, default_of, meaning_of, under_bounds, under_parts, without_exports, count}
use Rattle.ms_names_rules.specs.Typed.{both, default_restriction, formula_in, number_in, numbers_of_parts, of_order, quantifier, typed, typed_arguments, typed_call, typed_domain, typed_formulas, typed_name, typed_numbers, typed_parts, typed_quantifiers, typed_restriction, typed_shift}
use Rattle.ms_names_rules.specs.Typed.{argument_behind, argument_for, as_many, formula_behind, joined_formula, number_behind, typed_atom, typed_binary, typed_bracket, typed_prefix}
use Rattle.ms_names_rules.specs.Order.{parameters_of}

int-same : (s t : Scope) (i : Int) → without_exports s ≡ without_exports t → value_of_int s i ≡ value_of_int t i
int-same s t (Number n) h = refl
int-same s t (Constant n) h = ap (λ there. value_of_int there (Constant n)) h

default-same : (s t : Scope) (o : Order) → without_exports s ≡ without_exports t → default_of s o ≡ default_of t o
default-same s t Zero h = refl
default-same s t One h = ap (λ there. default_of there One) h
default-same s t Two h = ap (λ there. default_of there Two) h

pub under_bounds-same : (s t : Scope) (x : ℕ) (vs : Variables) → without_exports s ≡ without_exports t →
    without_exports (under_bounds s x vs) ≡ without_exports (under_bounds t x vs)
under_bounds-same s t x no_variables h = h
under_bounds-same s t x (and_variable vs at o n d) h =
    ap (bind n (meaning.Variable (x + count_of_bounds vs) o)) (under_bounds-same s t x vs h)

pub under_parts-same : (s t : Scope) (x : ℕ) (o : Order) (ps : Parts) → without_exports s ≡ without_exports t →
    without_exports (under_parts s x o ps) ≡ without_exports (under_parts t x o ps)
under_parts-same s t x o no_parts h = h
under_parts-same s t x o (and_part ps at n e) h =
    ap (bind n (meaning.Variable (x + count_of_parts ps) o)) (under_parts-same s t x o ps h)

pub both-same : {A B C : Type 0} (make : A → B → C) {a c : Option A} {b d : Option B} → a ≡ c → b ≡ d → both make a b ≡ both make c d
both-same make {c = c} {b = b} first second = ap (λ there. both make there b) first ∙ ap (both make c) second

atom-same : (s t : Scope) (b : Before) (a : Atom) → without_exports s ≡ without_exports t → typed_atom s b a ≡ typed_atom t b a
atom-same s t b truth h = refl
atom-same s t b falsity h = refl
atom-same s t b whole h = refl
atom-same s t b empty_set h = refl
atom-same s t b (named n) h = ap (λ there. typed_name (meaning_of there n)) h
atom-same s t b (numeral n) h = refl
atom-same s t b (pconst i) h = ap (option_map (λ n. tree.set_argument (tree.pconst n))) (int-same s t i.value h)
atom-same s t b (imported file rs) h = refl

mutual
  pub typed-same : (s t : Scope) (b : Before) (e : Expression) → without_exports s ≡ without_exports t → typed s b e ≡ typed t b e
  typed-same s t b (atom at a) h = atom-same s t b a h
  typed-same s t b (prefixed at op e) h = ap (typed_prefix op) (typed-same s t b e h)
  typed-same s t b (binary at op e f) h =
      ap (λ a. typed_binary op a (typed s (after b e) f)) (typed-same s t b e h)
      ∙ ap (typed_binary op (typed t b e)) (typed-same s t (after b e) f h)
  typed-same s t b (joined at op es) h = ap (option_map (λ fs. tree.truth_argument (joined_formula op fs))) (formulas-same s t b es h)
  typed-same s t b (shifted at e i) h =
      ap (λ n. typed_shift i.minus n (typed s b e)) (int-same s t i.value h)
      ∙ ap (typed_shift i.minus (value_of_int t i.value)) (typed-same s t b e h)
  typed-same s t b (enclosed at k e) h = ap (typed_bracket b k) (typed-same s t (opened b k) e h)
  typed-same s t b (listed at Literal es) h = ap (option_map (λ ts. tree.set_argument (tree.literal ts))) (numbers-same s t b es h)
  typed-same s t b (listed at (Call n) es) h =
      ap (λ there. typed_call (meaning_of there n) (as_many (count es) (parameters_of (meaning_of there n)) (typed_arguments s b (parameters_of (meaning_of there n)) es))) h
      ∙ ap (λ given. typed_call (meaning_of t n) (as_many (count es) (parameters_of (meaning_of t n)) given)) (arguments-same s t b (parameters_of (meaning_of t n)) es h)
  typed-same s t b (quantified at q o vs e) h =
      let here = with_names b (count_of_bounds vs) in
      let body = formula_in (typed (under_bounds t b.next vs) (after_bounds here vs) e) in
      ap (λ a. option_map (λ f. tree.truth_argument f) (typed_quantifiers s b.next here q vs (formula_in a)))
      (typed-same (under_bounds s b.next vs) (under_bounds t b.next vs) (after_bounds here vs) e (under_bounds-same s t b.next vs h))
      ∙ ap (option_map (λ f. tree.truth_argument f)) (quantifiers-same s t b.next here q vs body h)
  typed-same s t b (let_in at o ps e) h =
      let here = with_names b (count_of_parts ps) in
      let make = λ (sides : tree.Arguments) (f : Form). tree.truth_argument (tree.where_let (numbers_of_parts b.next ps) sides f) in
      ap (λ sides. both make sides (formula_in (typed (under_parts s b.next o ps) (after_parts here ps) e))) (parts-same s t here o ps h)
      ∙ ap (λ a. both make (typed_parts t here o ps) (formula_in a))
      (typed-same (under_parts s b.next o ps) (under_parts t b.next o ps) (after_parts here ps) e (under_parts-same s t b.next o ps h))

  pub numbers-same : (s t : Scope) (b : Before) (es : Expressions) → without_exports s ≡ without_exports t → typed_numbers s b es ≡ typed_numbers t b es
  numbers-same s t b no_expressions h = refl
  numbers-same s t b (and_expression es e) h =
      both-same number_behind (numbers-same s t b es h) (ap number_in (typed-same s t (after_all b es) e h))

  pub formulas-same : (s t : Scope) (b : Before) (es : Expressions) → without_exports s ≡ without_exports t → typed_formulas s b es ≡ typed_formulas t b es
  formulas-same s t b no_expressions h = refl
  formulas-same s t b (and_expression es e) h =
      both-same formula_behind (formulas-same s t b es h) (ap formula_in (typed-same s t (after_all b es) e h))

  pub arguments-same : (s t : Scope) (b : Before) (parameters : List Order) (es : Expressions) → without_exports s ≡ without_exports t →
      typed_arguments s b parameters es ≡ typed_arguments t b parameters es
  arguments-same s t b parameters no_expressions h = refl
  arguments-same s t b parameters (and_expression es e) h =
      both-same argument_behind (arguments-same s t b parameters es h) (ap (argument_for (slice_get parameters (count es))) (typed-same s t (after_all b es) e h))

  pub quantifiers-same : (s t : Scope) (x : ℕ) (b : Before) (q : Quant) (vs : Variables) (f : Option Form) → without_exports s ≡ without_exports t →
      typed_quantifiers s x b q vs f ≡ typed_quantifiers t x b q vs f
  quantifiers-same s t x b q no_variables f h = refl
  quantifiers-same s t x b q (and_variable vs at o n d) f h =
      let y = x + count_of_bounds vs in
      let inner = under_bounds s x (and_variable vs at o n d) in
      let other = under_bounds t x (and_variable vs at o n d) in
      quantifiers-same s t x b q vs (quantifier q o y (typed_domain inner (after_bounds b vs) o y d) f) h
      ∙ ap (λ r. typed_quantifiers t x b q vs (quantifier q o y r f))
      (domain-same inner other (after_bounds b vs) o y d (under_bounds-same s t x (and_variable vs at o n d) h))

  pub domain-same : (s t : Scope) (b : Before) (o : Order) (x : ℕ) (d : Domain) → without_exports s ≡ without_exports t →
      typed_domain s b o x d ≡ typed_domain t b o x d
  domain-same s t b o x unrestricted h = ap (λ d. Some (default_restriction d x)) (default-same s t o h)
  domain-same s t b o x (restricted e) h = ap typed_restriction (typed-same s t b e h)

  pub parts-same : (s t : Scope) (b : Before) (o : Order) (ps : Parts) → without_exports s ≡ without_exports t → typed_parts s b o ps ≡ typed_parts t b o ps
  parts-same s t b o no_parts h = refl
  parts-same s t b o (and_part ps at n e) h =
      both-same argument_behind (parts-same s t b o ps h) (ap (option_and_then (of_order o)) (typed-same s t (after_parts b ps) e h))
