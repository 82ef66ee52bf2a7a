-- The typed tree of an expression is well numbered.
use Rattle.std.proofs.Common.{ℕ, ◌+◌, ◌≤◌, inl, List, map, Option, refl, sym, subst, arith, slice_get, take}
use Rattle.std.specs.Option.{IsSomeAnd, option_and_then}
use Rattle.ms_logic.specs.declared.checked.ExportUse.{ExportUse}
use Rattle.ms_logic.specs.declared.checked.ImportUse.{ImportUse}
use Rattle.ms_logic.specs.declared.mode.Order.{Order}
use Rattle.ms_logic.specs.declared.mode.Quant.{Quant}
use Rattle.ms_logic.specs.Assignment.{Variable}
use Rattle.ms_logic.specs.Tree as tree
use Rattle.ms_logic.specs.Tree.{Form, truth_argument, set_argument}
use Rattle.ms_names_rules.specs.declared.wanted.Wanted.{Wanted}
use Rattle.ms_names_rules.specs.declared.wanted.Wanted.TheVariants.{Exactly, NumberOrSet}
use Rattle.ms_parse_grammar.specs.Tree.{truth, falsity, whole, empty_set, named, numeral, pconst, imported, Expression, atom, prefixed, binary, joined, shifted, enclosed, listed, quantified, let_in, Expressions, no_expressions, and_expression, Variables, no_variables, and_variable, Domain, unrestricted, restricted, Parts, no_parts, and_part, Atom}
use Rattle.ms_parse_grammar.specs.declared.operator.Bracket.TheVariants.{Parentheses, Emptiness, Restriction, Export}
use Rattle.ms_parse_grammar.specs.declared.operator.Listing.TheVariants.{Literal, Call}
use Rattle.ms_names_rules.specs.Before.{Before, with_names, with_export, after, after_bounds, after_parts, after_all, opened}
use Rattle.ms_names_rules.specs.Constant.{value_of}
use Rattle.ms_names_rules.specs.Numbers.{Tables, IsNew, Sees, seeing, TermSees, SetSees, TermsSee, ExportSees, ImportSees, IsNumbered, AreNumbered, IsNumberedRestriction, IsNumberedArgument, AreNumberedArguments}
use Rattle.ms_logic.specs.Lists.{Each}
use Rattle.ms_names_rules.specs.Order.{formula_wanted, number_wanted, order_of, parameters_of, content_wanted, fits, left_wanted, operand_wanted, right_wanted, wanted_by}
use Rattle.ms_names_rules.specs.Occurrence.{occurrences, inside_operands, inside_arguments, inside_bounds, inside_domain, inside_parts}
use Rattle.ms_names_rules.specs.Reads.{free_variables}
use Rattle.ms_names_rules.specs.Scope.{Scope, count_of_bounds, count_of_parts, default_of, meaning_of, under_bounds, under_parts, without_exports, count}
use Rattle.ms_names_rules.specs.Typed.{formula_in, number_in, set_in, numbers_of_parts, of_order, typed, typed_arguments, typed_domain, typed_formulas, typed_numbers, typed_parts, typed_quantifiers, argument_behind, argument_for, formula_behind, joined_formula, number_behind, quantifier, typed_atom, typed_bracket}
use Rattle.ms_names_rules.proofs.Exports.{typed-same, under_parts-same}
use Rattle.ms_names_rules.proofs.Fitting.{Fits, If, each-back, each-front, fits-bounds, fits-parts, fits-without, if-any, if-one, meaning-fits, new-above, new-bounds, new-parts, seeing_bounds, seeing_parts}
use Rattle.ms_names_rules.proofs.Growth.{grows, grows-bounds, grows-parts, grows-all, opened-grows}
use Rattle.ms_names_rules.proofs.Numbering.{AreFor, AreSides, IsOf, UsesStand, call-numbered, default-fits, default-numbered, export-sees, formula-numbered, if-two, more-sides, name-numbered, no-sides, number-sees, order-numbered, pairs-see, set-sees, shift-numbered}
use Rattle.ms_names_rules.proofs.Behind.{arguments-numbered-behind, formulas-numbered-behind, terms-see-behind}
use Rattle.ms_names_rules.proofs.Numbering.{IsFor, argument-numbered, binary-numbered, joined-numbered, more-arguments, prefix-numbered}
use Rattle.ms_list.specs.declared.at.At.{At}
use Rattle.ms_parse_grammar.specs.declared.operator.Bracket.{Bracket}

-- what is new here is new in the text that follows
new-after : (seen : List Variable) (b : Before) (e : Expression) → IsNew seen b.next → IsNew seen (after b e).next
new-after seen b e new = new-above seen b.next (after b e).next new (grows b e)

-- what is new is new behind all of a list

new-all : (seen : List Variable) (b : Before) (es : Expressions) → IsNew seen b.next → IsNew seen (after_all b es).next
new-all seen b es new = new-above seen b.next (after_all b es).next new (grows-all b es)

atom-numbered : (tables : Tables) (bound : ℕ) (seen : List Variable) (s : Scope) (b : Before) (w : Wanted) (at : At) (a : Atom) →
    Fits tables bound seen s → Each (UsesStand tables) (occurrences s b w (atom at a)) → If (IsNumberedArgument tables bound seen) (typed_atom s b a)
atom-numbered tables bound seen s b w at truth fits uses = tt
atom-numbered tables bound seen s b w at falsity fits uses = tt
atom-numbered tables bound seen s b w at whole fits uses = tt
atom-numbered tables bound seen s b w at empty_set fits uses = tt
atom-numbered tables bound seen s b w at (named n) fits uses = name-numbered tables bound seen (meaning_of s n) (meaning-fits tables bound seen s.names n fits.names)
atom-numbered tables bound seen s b w at (numeral n) fits uses = tt
atom-numbered tables bound seen s b w at (pconst i) fits uses =
    if-one (λ k. Unit {0}) (IsNumberedArgument tables bound seen) (λ k. set_argument (tree.pconst k)) (value_of s i) (λ k h. tt) (if-any (value_of s i))
atom-numbered tables bound seen s b w at (imported file rs) fits uses =
    let P : Option ImportUse → Type 0 = λ found. IsSomeAnd found (ImportSees seen) in
    subst P (sym uses.0.0.0) (pairs-see tables bound seen s rs fits)

bracket-numbered : (tables : Tables) (bound : ℕ) (seen : List Variable) (s : Scope) (b : Before) (w : Wanted) (at : At) (k : Bracket) (e : Expression) →
    Fits tables bound seen s → Each (UsesStand tables) (occurrences s b w (enclosed at k e)) → If (IsNumberedArgument tables bound seen) (typed s (opened b k) e) →
    If (IsNumberedArgument tables bound seen) (typed_bracket b k (typed s (opened b k) e))
bracket-numbered tables bound seen s b w at Parentheses e fits uses h = h
bracket-numbered tables bound seen s b w at Emptiness e fits uses h =
    if-one (SetSees seen) (IsNumberedArgument tables bound seen) (λ t. truth_argument (tree.emptiness t)) (set_in (typed s b e)) (λ t k. k) (set-sees tables bound seen (typed s b e) h)
bracket-numbered tables bound seen s b w at Restriction e fits uses h =
    if-one (IsNumbered tables bound seen) (IsNumberedArgument tables bound seen) (λ f. truth_argument (tree.restrict f)) (formula_in (typed s b e)) (λ f k. k)
    (formula-numbered tables bound seen (typed s b e) h)
bracket-numbered tables bound seen s b w at (Export text_at file) e fits uses h =
    let P : Option ExportUse → Type 0 = λ found. IsSomeAnd found (ExportSees seen) in
    let used : ExportUse = record {
      at = text_at;
      name = file;
      variables = map (λ v. v.number) (free_variables s (with_export b) e);
      names = map (λ v. v.name) (free_variables s (with_export b) e);
    } in
    if-one (IsNumbered tables bound seen) (IsNumberedArgument tables bound seen) (λ f. truth_argument (tree.exported b.exports f)) (formula_in (typed s (with_export b) e))
    (λ f k. (subst P (sym uses.0.1.0) (export-sees tables bound seen s (with_export b) e used fits refl refl), k))
    (formula-numbered tables bound seen (typed s (with_export b) e) h)

mutual
  pub numbered : (tables : Tables) (bound : ℕ) (seen : List Variable) (s : Scope) (b : Before) (w : Wanted) (e : Expression) →
      Fits tables bound seen s → IsNew seen b.next → Each (UsesStand tables) (occurrences s b w e) → If (IsNumberedArgument tables bound seen) (typed s b e)
  numbered tables bound seen s b w (atom at a) fits new uses = atom-numbered tables bound seen s b w at a fits uses
  numbered tables bound seen s b w (prefixed at op e) fits new uses =
      prefix-numbered tables bound seen op (typed s b e) (numbered tables bound seen s b (operand_wanted op) e fits new uses.1)
  numbered tables bound seen s b w (binary at op e f) fits new uses =
      let left = occurrences s b (left_wanted op) e in
      let right = occurrences s (after b e) (right_wanted op (order_of s e)) f in
      binary-numbered tables bound seen op (typed s b e) (typed s (after b e) f)
      (numbered tables bound seen s b (left_wanted op) e fits new (each-front (UsesStand tables) left right uses.1))
      (numbered tables bound seen s (after b e) (right_wanted op (order_of s e)) f fits (new-after seen b e new) (each-back (UsesStand tables) left right uses.1))
  numbered tables bound seen s b w (joined at op es) fits new uses =
      if-one (AreNumbered tables bound seen) (IsNumberedArgument tables bound seen) (λ fs. truth_argument (joined_formula op fs)) (typed_formulas s b es)
      (joined-numbered tables bound seen op) (formulas-all tables bound seen s b es fits new uses.1)
  numbered tables bound seen s b w (shifted at e i) fits new uses =
      shift-numbered tables bound seen i.minus (value_of s i) (typed s b e) (numbered tables bound seen s b NumberOrSet e fits new uses.1)
  numbered tables bound seen s b w (enclosed at k e) fits new uses =
      bracket-numbered tables bound seen s b w at k e fits uses
      (numbered tables bound seen s (opened b k) (content_wanted k) e fits (new-above seen b.next (opened b k).next new (opened-grows b k)) uses.1)
  numbered tables bound seen s b w (listed at Literal es) fits new uses =
      if-one (TermsSee seen) (IsNumberedArgument tables bound seen) (λ ts. set_argument (tree.literal ts)) (typed_numbers s b es) (λ ts h. h) (numbers-all tables bound seen s b es fits new uses.1)
  numbered tables bound seen s b w (listed at (Call n) es) fits new uses =
      let parameters = parameters_of (meaning_of s n) in
      call-numbered tables bound seen (meaning_of s n) (count es) (typed_arguments s b parameters es) (meaning-fits tables bound seen s.names n fits.names)
      (arguments-all tables bound seen s b parameters es fits new uses.1)
  numbered tables bound seen s b w (quantified at q o vs e) fits new uses =
      let here = with_names b (count_of_bounds vs) in
      let end = after_bounds here vs in
      let inner = under_bounds s b.next vs in
      let wide = seeing_bounds b.next vs seen in
      let before = inside_bounds s b.next here vs in
      let within = occurrences inner end formula_wanted e in
      if-one (IsNumbered tables bound seen) (IsNumberedArgument tables bound seen) (λ f. truth_argument f) (typed_quantifiers s b.next here q vs (formula_in (typed inner end e))) (λ f h. h)
      (quantifiers-all tables bound seen s b.next here q vs (formula_in (typed inner end e)) fits new (omega arith) (each-front (UsesStand tables) before within uses.1)
      (formula-numbered tables bound wide (typed inner end e)
      (numbered tables bound wide inner end formula_wanted e (fits-bounds tables bound seen s b.next vs new fits)
      (new-bounds b.next end.next vs seen new (grows-bounds here vs)) (each-back (UsesStand tables) before within uses.1))))
  numbered tables bound seen s b w (let_in at o ps e) fits new uses =
      let here = with_names b (count_of_parts ps) in
      let end = after_parts here ps in
      let outer = without_exports s in
      let inner = under_parts outer b.next o ps in
      let plain = under_parts s b.next o ps in
      let wide = seeing_parts b.next o ps seen in
      let before = inside_parts outer here o ps in
      let within = occurrences inner end formula_wanted e in
      if-two (λ sides. AreNumberedArguments tables bound seen sides × AreSides o ps sides) (IsNumbered tables bound wide) (IsNumberedArgument tables bound seen)
      (λ sides f. truth_argument (tree.where_let (numbers_of_parts b.next ps) sides f)) (typed_parts s here o ps) (formula_in (typed plain end e))
      (λ sides f h k. (h.0, (h.1 b.next seen new).0, subst (λ there. IsNumbered tables bound there f) (sym (h.1 b.next seen new).1) k))
      (parts-all tables bound seen s here o ps fits (new-above seen b.next here.next new (omega arith)) (each-front (UsesStand tables) before within uses.1))
      (formula-numbered tables bound wide (typed plain end e)
      (subst (λ a. If (IsNumberedArgument tables bound wide) a) (typed-same inner plain end e (under_parts-same outer s b.next o ps refl))
      (numbered tables bound wide inner end formula_wanted e (fits-parts tables bound seen outer b.next o ps new (fits-without tables bound seen s fits))
      (new-parts b.next end.next o ps seen new (grows-parts here ps)) (each-back (UsesStand tables) before within uses.1))))

  numbers-all : (tables : Tables) (bound : ℕ) (seen : List Variable) (s : Scope) (b : Before) (es : Expressions) → Fits tables bound seen s →
      IsNew seen b.next → Each (UsesStand tables) (inside_operands s b number_wanted es) → If (TermsSee seen) (typed_numbers s b es)
  numbers-all tables bound seen s b no_expressions fits new uses = tt
  numbers-all tables bound seen s b (and_expression es e) fits new uses =
      let end = after_all b es in
      let before = inside_operands s b number_wanted es in
      let here = occurrences s end number_wanted e in
      if-two (TermsSee seen) (TermSees seen) (TermsSee seen) number_behind (typed_numbers s b es) (number_in (typed s end e)) (terms-see-behind seen)
      (numbers-all tables bound seen s b es fits new (each-front (UsesStand tables) before here uses))
      (number-sees tables bound seen (typed s end e) (numbered tables bound seen s end number_wanted e fits (new-all seen b es new) (each-back (UsesStand tables) before here uses)))

  formulas-all : (tables : Tables) (bound : ℕ) (seen : List Variable) (s : Scope) (b : Before) (es : Expressions) → Fits tables bound seen s →
      IsNew seen b.next → Each (UsesStand tables) (inside_operands s b formula_wanted es) → If (AreNumbered tables bound seen) (typed_formulas s b es)
  formulas-all tables bound seen s b no_expressions fits new uses = tt
  formulas-all tables bound seen s b (and_expression es e) fits new uses =
      let end = after_all b es in
      let before = inside_operands s b formula_wanted es in
      let here = occurrences s end formula_wanted e in
      if-two (AreNumbered tables bound seen) (IsNumbered tables bound seen) (AreNumbered tables bound seen) formula_behind (typed_formulas s b es) (formula_in (typed s end e))
      (formulas-numbered-behind tables bound seen)
      (formulas-all tables bound seen s b es fits new (each-front (UsesStand tables) before here uses))
      (formula-numbered tables bound seen (typed s end e) (numbered tables bound seen s end formula_wanted e fits (new-all seen b es new) (each-back (UsesStand tables) before here uses)))

  arguments-all : (tables : Tables) (bound : ℕ) (seen : List Variable) (s : Scope) (b : Before) (parameters : List Order) (es : Expressions) → Fits tables bound seen s →
      IsNew seen b.next → Each (UsesStand tables) (inside_arguments (without_exports s) b parameters es) →
      If (AreFor tables bound seen (take (count es) parameters)) (typed_arguments s b parameters es)
  arguments-all tables bound seen s b parameters no_expressions fits new uses = (tt, refl)
  arguments-all tables bound seen s b parameters (and_expression es e) fits new uses =
      let end = after_all b es in
      let outer = without_exports s in
      let o = slice_get parameters (count es) in
      let before = inside_arguments outer b parameters es in
      let here = occurrences outer end (wanted_by o) e in
      if-two (AreFor tables bound seen (take (count es) parameters)) (IsFor tables bound seen o) (AreFor tables bound seen (take (count es + 1) parameters)) argument_behind
      (typed_arguments s b parameters es) (argument_for o (typed s end e)) (more-arguments tables bound seen parameters (count es))
      (arguments-all tables bound seen s b parameters es fits new (each-front (UsesStand tables) before here uses))
      (argument-numbered tables bound seen o (typed s end e) (subst (λ a. If (IsNumberedArgument tables bound seen) a) (typed-same outer s end e refl)
      (numbered tables bound seen outer end (wanted_by o) e (fits-without tables bound seen s fits) (new-all seen b es new) (each-back (UsesStand tables) before here uses))))

  quantifiers-all : (tables : Tables) (bound : ℕ) (seen : List Variable) (s : Scope) (x : ℕ) (b : Before) (q : Quant) (vs : Variables) (f : Option Form) →
      Fits tables bound seen s → IsNew seen x → x + count_of_bounds vs ≤ b.next → Each (UsesStand tables) (inside_bounds s x b vs) →
      If (IsNumbered tables bound (seeing_bounds x vs seen)) f → If (IsNumbered tables bound seen) (typed_quantifiers s x b q vs f)
  quantifiers-all tables bound seen s x b q no_variables f fits new le uses body = body
  quantifiers-all tables bound seen s x b q (and_variable vs at o n d) f fits new le uses body =
      let y = x + count_of_bounds vs in
      let end = after_bounds b vs in
      let inner = under_bounds s x (and_variable vs at o n d) in
      let there = seeing_bounds x vs seen in
      let wide = seeing y o there in
      let before = inside_bounds s x b vs in
      let here = inside_domain (without_exports inner) end d in
      let more = grows-bounds b vs in
      quantifiers-all tables bound seen s x b q vs (quantifier q o y (typed_domain inner end o y d) f) fits new (omega (arith, le)) (each-front (UsesStand tables) before here uses)
      (if-two (IsNumberedRestriction tables bound wide) (IsNumbered tables bound wide) (IsNumbered tables bound there) (λ r g. tree.quantified q o y r g)
      (typed_domain inner end o y d) f (λ r g h k. (new-bounds x y vs seen new (omega arith), h, k))
      (domain-all tables bound wide inner end o y d (fits-bounds tables bound seen s x (and_variable vs at o n d) new fits)
      (new-bounds x end.next (and_variable vs at o n d) seen new (omega (arith, le, more))) (inl refl) (each-back (UsesStand tables) before here uses)) body)

  pub domain-all : (tables : Tables) (bound : ℕ) (seen : List Variable) (s : Scope) (b : Before) (o : Order) (x : ℕ) (d : Domain) → Fits tables bound seen s →
      IsNew seen b.next → Sees seen x o → Each (UsesStand tables) (inside_domain (without_exports s) b d) → If (IsNumberedRestriction tables bound seen) (typed_domain s b o x d)
  domain-all tables bound seen s b o x unrestricted fits new sees uses = default-numbered tables bound seen x o (default_of s o) (default-fits tables bound seen s o fits) sees
  domain-all tables bound seen s b o x (restricted e) fits new sees uses =
      let outer = without_exports s in
      if-one (IsNumbered tables bound seen) (IsNumberedRestriction tables bound seen) (λ f. tree.restricted f) (formula_in (typed s b e)) (λ f h. h)
      (formula-numbered tables bound seen (typed s b e) (subst (λ a. If (IsNumberedArgument tables bound seen) a) (typed-same outer s b e refl)
      (numbered tables bound seen outer b formula_wanted e (fits-without tables bound seen s fits) new uses)))

  parts-all : (tables : Tables) (bound : ℕ) (seen : List Variable) (s : Scope) (b : Before) (o : Order) (ps : Parts) → Fits tables bound seen s →
      IsNew seen b.next → Each (UsesStand tables) (inside_parts (without_exports s) b o ps) →
      If (λ sides. AreNumberedArguments tables bound seen sides × AreSides o ps sides) (typed_parts s b o ps)
  parts-all tables bound seen s b o no_parts fits new uses = (tt, no-sides o)
  parts-all tables bound seen s b o (and_part ps at n e) fits new uses =
      let end = after_parts b ps in
      let outer = without_exports s in
      let before = inside_parts outer b o ps in
      let here = occurrences outer end (Exactly o) e in
      if-two (λ sides. AreNumberedArguments tables bound seen sides × AreSides o ps sides) (IsOf tables bound seen o)
      (λ sides. AreNumberedArguments tables bound seen sides × AreSides o (and_part ps at n e) sides) argument_behind
      (typed_parts s b o ps) (option_and_then (of_order o) (typed s end e))
      (λ sides a h k. (arguments-numbered-behind tables bound seen sides a h.0 k.0, more-sides o ps at n e a sides h.1 k.1))
      (parts-all tables bound seen s b o ps fits new (each-front (UsesStand tables) before here uses))
      (order-numbered tables bound seen o (typed s end e) (subst (λ a. If (IsNumberedArgument tables bound seen) a) (typed-same outer s end e refl)
      (numbered tables bound seen outer end (Exactly o) e (fits-without tables bound seen s fits) (new-above seen b.next end.next new (grows-parts b ps))
      (each-back (UsesStand tables) before here uses))))
