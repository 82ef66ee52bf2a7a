-- Where no export may stand and nothing is wrong, there is none.
use Rattle.std.proofs.Common.{◌≡◌, ℕ, false, not, List, [], refl, subst, ◌∙◌, slice_get}
use Rattle.std.specs.Prelude.{flat_map}
use Rattle.ms_logic.specs.declared.mode.Order.{Order}
use Rattle.ms_names_rules.specs.declared.fault.Fault.TheVariants.{NotHere}
use Rattle.ms_names_rules.specs.declared.wanted.Wanted.{Wanted}
use Rattle.ms_names_rules.specs.declared.wanted.Wanted.TheVariants.{Exactly, NumberOrSet}
use Rattle.ms_parse_grammar.specs.Tree.{truth, falsity, whole, empty_set, named, numeral, pconst, imported, Expression, atom, prefixed, binary, joined, shifted, enclosed, listed, quantified, let_in, Expressions, no_expressions, and_expression, Variables, no_variables, and_variable, Domain, unrestricted, restricted, Parts, no_parts, and_part, Atom}
use Rattle.ms_parse_grammar.specs.declared.operator.Bracket.TheVariants.{Parentheses, Emptiness, Restriction, Export}
use Rattle.ms_parse_grammar.specs.declared.operator.Listing.TheVariants.{Literal, Call}
use Rattle.ms_names_rules.specs.Before.{Before, with_names, after, after_all, after_bounds, after_domain, after_parts, after_atom, opened}
use Rattle.ms_names_rules.specs.Order.{formula_wanted, number_wanted, order_of, parameters_of, wanted_by, content_wanted, left_wanted, operand_wanted, right_wanted}
use Rattle.ms_names_rules.specs.Occurrence.{standing, occurrences, inside, inside_operands, inside_arguments, inside_bounds, inside_domain, inside_parts}
use Rattle.ms_names_rules.specs.Rules.{faults_at, faults_of_form, faults_of_order, in_case}
use Rattle.ms_names_rules.specs.Scope.{Scope, count_of_bounds, count_of_parts, meaning_of, under_bounds, under_parts, without_exports, count}
use Rattle.ms_names_rules.proofs.Orders.{AreRight, back-empty, front-empty, right-back, right-front}
use Rattle.ms_list.specs.declared.at.At.{At}
use Rattle.ms_parse_grammar.specs.declared.operator.Bracket.{Bracket}

pub allowed-bounds : (s : Scope) (x : ℕ) (vs : Variables) → (under_bounds s x vs).exports_allowed ≡ s.exports_allowed
allowed-bounds s x no_variables = refl
allowed-bounds s x (and_variable vs at o n d) = allowed-bounds s x vs

allowed-parts : (s : Scope) (x : ℕ) (o : Order) (ps : Parts) → (under_parts s x o ps).exports_allowed ≡ s.exports_allowed
allowed-parts s x o no_parts = refl
allowed-parts s x o (and_part ps at n e) = allowed-parts s x o ps

inside-right : (s : Scope) (b : Before) (w : Wanted) (e : Expression) → AreRight (occurrences s b w e) → AreRight (inside s b e)
inside-right s b w e h = back-empty (faults_at (standing s b w e)) (flat_map faults_at (inside s b e)) h

form-right : (s : Scope) (b : Before) (w : Wanted) (e : Expression) → AreRight (occurrences s b w e) → faults_of_form s e ≡ []
form-right s b w e h = back-empty (faults_of_order s w e) (faults_of_form s e) (front-empty (faults_at (standing s b w e)) (flat_map faults_at (inside s b e)) h)

atom-none : (b : Before) (a : Atom) → (after_atom b a).exports ≡ b.exports
atom-none b truth = refl
atom-none b falsity = refl
atom-none b whole = refl
atom-none b empty_set = refl
atom-none b (named n) = refl
atom-none b (numeral n) = refl
atom-none b (pconst i) = refl
atom-none b (imported file rs) = refl

-- a bracket that may stand here is no export
bracket-none : (s : Scope) (b : Before) (at : At) (k : Bracket) (e : Expression) → s.exports_allowed ≡ false → faults_of_form s (enclosed at k e) ≡ [] →
    (opened b k).exports ≡ b.exports
bracket-none s b at Parentheses e off own = refl
bracket-none s b at Emptiness e off own = refl
bracket-none s b at Restriction e off own = refl
bracket-none s b at (Export text_at file) e off own =
    let wrong : in_case (not false) (NotHere at) ≡ [] = subst (λ allowed. in_case (not allowed) (NotHere at) ≡ []) off own in
    absurd (cc)

mutual
  pub none-exported : (s : Scope) (b : Before) (w : Wanted) (e : Expression) → s.exports_allowed ≡ false → AreRight (occurrences s b w e) → (after b e).exports ≡ b.exports
  none-exported s b w (atom at a) off h = atom-none b a
  none-exported s b w (prefixed at op e) off h = none-exported s b (operand_wanted op) e off (inside-right s b w (prefixed at op e) h)
  none-exported s b w (binary at op e f) off h =
      let left = occurrences s b (left_wanted op) e in
      let right = occurrences s (after b e) (right_wanted op (order_of s e)) f in
      let there = inside-right s b w (binary at op e f) h in
      none-exported s (after b e) (right_wanted op (order_of s e)) f off (right-back left right there)
      ∙ none-exported s b (left_wanted op) e off (right-front left right there)
  none-exported s b w (joined at op es) off h = operands-none s b formula_wanted es off (inside-right s b w (joined at op es) h)
  none-exported s b w (shifted at e i) off h = none-exported s b NumberOrSet e off (inside-right s b w (shifted at e i) h)
  none-exported s b w (enclosed at k e) off h =
      none-exported s (opened b k) (content_wanted k) e off (inside-right s b w (enclosed at k e) h)
      ∙ bracket-none s b at k e off (form-right s b w (enclosed at k e) h)
  none-exported s b w (listed at Literal es) off h = operands-none s b number_wanted es off (inside-right s b w (listed at Literal es) h)
  none-exported s b w (listed at (Call n) es) off h =
      arguments-none (without_exports s) b (parameters_of (meaning_of s n)) es refl (inside-right s b w (listed at (Call n) es) h)
  none-exported s b w (quantified at q o vs e) off h =
      let here = with_names b (count_of_bounds vs) in
      let end = after_bounds here vs in
      let inner = under_bounds s b.next vs in
      let before = inside_bounds s b.next here vs in
      let within = occurrences inner end formula_wanted e in
      none-exported inner end formula_wanted e (allowed-bounds s b.next vs ∙ off) (right-back before within (inside-right s b w (quantified at q o vs e) h))
      ∙ bounds-none s b.next here vs (right-front before within (inside-right s b w (quantified at q o vs e) h))
  none-exported s b w (let_in at o ps e) off h =
      let here = with_names b (count_of_parts ps) in
      let end = after_parts here ps in
      let outer = without_exports s in
      let inner = under_parts outer b.next o ps in
      let before = inside_parts outer here o ps in
      let within = occurrences inner end formula_wanted e in
      none-exported inner end formula_wanted e (allowed-parts outer b.next o ps) (right-back before within (inside-right s b w (let_in at o ps e) h))
      ∙ parts-none outer here o ps refl (right-front before within (inside-right s b w (let_in at o ps e) h))

  operands-none : (s : Scope) (b : Before) (w : Wanted) (es : Expressions) → s.exports_allowed ≡ false → AreRight (inside_operands s b w es) → (after_all b es).exports ≡ b.exports
  operands-none s b w no_expressions off h = refl
  operands-none s b w (and_expression es e) off h =
      let before = inside_operands s b w es in
      let here = occurrences s (after_all b es) w e in
      none-exported s (after_all b es) w e off (right-back before here h) ∙ operands-none s b w es off (right-front before here h)

  arguments-none : (s : Scope) (b : Before) (parameters : List Order) (es : Expressions) → s.exports_allowed ≡ false → AreRight (inside_arguments s b parameters es) →
      (after_all b es).exports ≡ b.exports
  arguments-none s b parameters no_expressions off h = refl
  arguments-none s b parameters (and_expression es e) off h =
      let w = wanted_by (slice_get parameters (count es)) in
      let before = inside_arguments s b parameters es in
      let here = occurrences s (after_all b es) w e in
      none-exported s (after_all b es) w e off (right-back before here h) ∙ arguments-none s b parameters es off (right-front before here h)

  pub bounds-none : (s : Scope) (x : ℕ) (b : Before) (vs : Variables) → AreRight (inside_bounds s x b vs) → (after_bounds b vs).exports ≡ b.exports
  bounds-none s x b no_variables h = refl
  bounds-none s x b (and_variable vs at o n d) h =
      let inner = without_exports (under_bounds s x (and_variable vs at o n d)) in
      let before = inside_bounds s x b vs in
      let here = inside_domain inner (after_bounds b vs) d in
      domain-none inner (after_bounds b vs) d refl (right-back before here h) ∙ bounds-none s x b vs (right-front before here h)

  pub domain-none : (s : Scope) (b : Before) (d : Domain) → s.exports_allowed ≡ false → AreRight (inside_domain s b d) → (after_domain b d).exports ≡ b.exports
  domain-none s b unrestricted off h = refl
  domain-none s b (restricted e) off h = none-exported s b formula_wanted e off h

  parts-none : (s : Scope) (b : Before) (o : Order) (ps : Parts) → s.exports_allowed ≡ false → AreRight (inside_parts s b o ps) → (after_parts b ps).exports ≡ b.exports
  parts-none s b o no_parts off h = refl
  parts-none s b o (and_part ps at n e) off h =
      let before = inside_parts s b o ps in
      let here = occurrences s (after_parts b ps) (Exactly o) e in
      none-exported s (after_parts b ps) (Exactly o) e off (right-back before here h) ∙ parts-none s b o ps off (right-front before here h)
