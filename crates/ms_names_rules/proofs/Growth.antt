-- Numbers grow along the text: those of bound names, and those of imports and exports by one for each.
use Rattle.std.proofs.Common.{◌≡◌, ℕ, ◌+◌, ◌≤◌, List, [], ◌∷◌, ◌++◌, length, refl, sym, ap, ◌∙◌, add-zero, arith, slice_get}
use Rattle.ms_logic.specs.declared.mode.Order.{Order}
use Rattle.ms_names_rules.specs.declared.wanted.Wanted.{Wanted}
use Rattle.ms_names_rules.specs.declared.wanted.Wanted.TheVariants.{Exactly, NumberOrSet}
use Rattle.ms_parse_grammar.specs.Tree.{truth, falsity, whole, empty_set, named, numeral, pconst, imported, Expression, atom, prefixed, binary, joined, shifted, enclosed, listed, quantified, let_in, Expressions, no_expressions, and_expression, Variables, no_variables, and_variable, Domain, unrestricted, restricted, Parts, no_parts, and_part, Atom}
use Rattle.ms_parse_grammar.specs.declared.operator.Bracket.TheVariants.{Parentheses, Emptiness, Restriction, Export}
use Rattle.ms_parse_grammar.specs.declared.operator.Listing.TheVariants.{Literal, Call}
use Rattle.ms_names_rules.specs.Before.{Before, with_names, with_export, after, after_all, after_bounds, after_domain, after_parts, after_atom, opened}
use Rattle.ms_names_rules.specs.Order.{formula_wanted, number_wanted, order_of, parameters_of, wanted_by, content_wanted, left_wanted, operand_wanted, right_wanted}
use Rattle.ms_names_rules.specs.Occurrence.{Occurrence, standing, occurrences, inside, inside_operands, inside_arguments, inside_bounds, inside_domain, inside_parts}
use Rattle.ms_names_rules.specs.Scope.{Scope, count_of_bounds, count_of_parts, meaning_of, under_bounds, under_parts, without_exports, count}
use Rattle.ms_names_rules.specs.Uses.{export_at, export_of_form, import_at, import_of_form}
use Rattle.ms_list.specs.declared.at.At.{At}
use Rattle.ms_parse_grammar.specs.declared.operator.Bracket.{Bracket}

-- no number of a bound name is used again

both-grow : (a b c : ℕ) → a ≤ b → b ≤ c → a ≤ c
both-grow a b c h k = omega arith

atom-grows : (b : Before) (a : Atom) → b.next ≤ (after_atom b a).next
atom-grows b truth = omega arith
atom-grows b falsity = omega arith
atom-grows b whole = omega arith
atom-grows b empty_set = omega arith
atom-grows b (named n) = omega arith
atom-grows b (numeral n) = omega arith
atom-grows b (pconst i) = omega arith
atom-grows b (imported file rs) = omega arith

pub opened-grows : (b : Before) (k : Bracket) → b.next ≤ (opened b k).next
opened-grows b Parentheses = omega arith
opened-grows b Emptiness = omega arith
opened-grows b Restriction = omega arith
opened-grows b (Export text_at file) = omega arith

mutual
  pub grows : (b : Before) (e : Expression) → b.next ≤ (after b e).next
  grows b (atom at a) = atom-grows b a
  grows b (prefixed at op e) = grows b e
  grows b (binary at op e f) = both-grow _ _ _ (grows b e) (grows (after b e) f)
  grows b (joined at op es) = grows-all b es
  grows b (shifted at e i) = grows b e
  grows b (enclosed at k e) = both-grow _ _ _ (opened-grows b k) (grows (opened b k) e)
  grows b (listed at l es) = grows-all b es
  grows b (quantified at q o vs e) =
      let here = with_names b (count_of_bounds vs) in
      let first : b.next ≤ here.next = omega arith in
      both-grow _ _ _ first (both-grow _ _ _ (grows-bounds here vs) (grows (after_bounds here vs) e))
  grows b (let_in at o ps e) =
      let here = with_names b (count_of_parts ps) in
      let first : b.next ≤ here.next = omega arith in
      both-grow _ _ _ first (both-grow _ _ _ (grows-parts here ps) (grows (after_parts here ps) e))

  pub grows-all : (b : Before) (es : Expressions) → b.next ≤ (after_all b es).next
  grows-all b no_expressions = omega arith
  grows-all b (and_expression es e) = both-grow _ _ _ (grows-all b es) (grows (after_all b es) e)

  pub grows-bounds : (b : Before) (vs : Variables) → b.next ≤ (after_bounds b vs).next
  grows-bounds b no_variables = omega arith
  grows-bounds b (and_variable vs at o n d) = both-grow _ _ _ (grows-bounds b vs) (grows-domain (after_bounds b vs) d)

  pub grows-domain : (b : Before) (d : Domain) → b.next ≤ (after_domain b d).next
  grows-domain b unrestricted = omega arith
  grows-domain b (restricted e) = grows b e

  pub grows-parts : (b : Before) (ps : Parts) → b.next ≤ (after_parts b ps).next
  grows-parts b no_parts = omega arith
  grows-parts b (and_part ps at n e) = both-grow _ _ _ (grows-parts b ps) (grows (after_parts b ps) e)

-- imports and exports

-- what stands before the text that follows an occurrence, as far as its own import or export goes
abbrev pub past : Before → Occurrence → Before
past b o = record b { imports = b.imports + length (import_at o); exports = b.exports + length (export_at o) }

-- each of some occurrences has before it as many imports and exports as stand there, up to the end
abbrev pub Counts : Before → List Occurrence → Before → Type 0
Counts b [] c = (c.imports ≡ b.imports) × (c.exports ≡ b.exports)
Counts b (o ∷ os) c = (o.before.imports ≡ b.imports) × (o.before.exports ≡ b.exports) × Counts (past b o) os c

counts-from : (b c d : Before) (os : List Occurrence) → c.imports ≡ b.imports → c.exports ≡ b.exports → Counts c os d → Counts b os d
counts-from b c d [] same also h = (h.0 ∙ same, h.1 ∙ also)
counts-from b c d (o ∷ os) same also h =
    (h.0 ∙ same, h.1 ∙ also, counts-from (past b o) (past c o) d os (ap (λ n. n + length (import_at o)) same) (ap (λ n. n + length (export_at o)) also) h.2)

pub counts-append : (b c d : Before) (os ps : List Occurrence) → Counts b os c → Counts c ps d → Counts b (os ++ ps) d
counts-append b c d [] ps h k = counts-from b c d ps h.0 h.1 k
counts-append b c d (o ∷ os) ps h k = (h.0, h.1, counts-append (past b o) c d os ps h.2 k)

-- bound names do not count
pub counts-names : (b : Before) (n : ℕ) (d : Before) (os : List Occurrence) → Counts (with_names b n) os d → Counts b os d
counts-names b n d os h = counts-from b (with_names b n) d os refl refl h

-- an expression that is no import or export, before those inside it
counts-front : (s : Scope) (b : Before) (w : Wanted) (e : Expression) → import_of_form s e ≡ [] → export_of_form s b e ≡ [] →
    Counts b (inside s b e) (after b e) → Counts b (occurrences s b w e) (after b e)
counts-front s b w e no_import no_export h =
    let o = standing s b w e in (
      refl,
      refl,
      counts-from (past b o) b (after b e) (inside s b e)
          (sym (add-zero b.imports) ∙ ap (λ us. b.imports + length us) (sym no_import))
          (sym (add-zero b.exports) ∙ ap (λ us. b.exports + length us) (sym no_export)) h,
    )

counts-two : (s : Scope) (b : Before) (v w : Wanted) (e f : Expression) → Counts b (occurrences s b v e) (after b e) →
    Counts (after b e) (occurrences s (after b e) w f) (after (after b e) f) →
    Counts b (occurrences s b v e ++ occurrences s (after b e) w f) (after (after b e) f)
counts-two s b v w e f h k = counts-append b (after b e) (after (after b e) f) (occurrences s b v e) (occurrences s (after b e) w f) h k

atom-counts : (s : Scope) (b : Before) (w : Wanted) (at : At) (a : Atom) → Counts b (occurrences s b w (atom at a)) (after_atom b a)
atom-counts s b w at truth = counts-front s b w (atom at truth) refl refl (refl, refl)
atom-counts s b w at falsity = counts-front s b w (atom at falsity) refl refl (refl, refl)
atom-counts s b w at whole = counts-front s b w (atom at whole) refl refl (refl, refl)
atom-counts s b w at empty_set = counts-front s b w (atom at empty_set) refl refl (refl, refl)
atom-counts s b w at (named n) = counts-front s b w (atom at (named n)) refl refl (refl, refl)
atom-counts s b w at (numeral n) = counts-front s b w (atom at (numeral n)) refl refl (refl, refl)
atom-counts s b w at (pconst i) = counts-front s b w (atom at (pconst i)) refl refl (refl, refl)
atom-counts s b w at (imported file rs) = (refl, refl, (refl, sym (add-zero b.exports)))

bracket-counts : (s : Scope) (b : Before) (w : Wanted) (at : At) (k : Bracket) (e : Expression) →
    Counts (opened b k) (inside s b (enclosed at k e)) (after b (enclosed at k e)) → Counts b (occurrences s b w (enclosed at k e)) (after b (enclosed at k e))
bracket-counts s b w at Parentheses e h = counts-front s b w (enclosed at Parentheses e) refl refl h
bracket-counts s b w at Emptiness e h = counts-front s b w (enclosed at Emptiness e) refl refl h
bracket-counts s b w at Restriction e h = counts-front s b w (enclosed at Restriction e) refl refl h
bracket-counts s b w at (Export text_at file) e h = (
  refl,
  refl,
  counts-from (past b (standing s b w (enclosed at (Export text_at file) e))) (with_export b) (after (with_export b) e) (occurrences s (with_export b) formula_wanted e)
      (sym (add-zero b.imports)) refl h,
)

mutual
  pub counts : (s : Scope) (b : Before) (w : Wanted) (e : Expression) → Counts b (occurrences s b w e) (after b e)
  counts s b w (atom at a) = atom-counts s b w at a
  counts s b w (prefixed at op e) = counts-front s b w (prefixed at op e) refl refl (counts s b (operand_wanted op) e)
  counts s b w (binary at op e f) =
      counts-front s b w (binary at op e f) refl refl
      (counts-two s b (left_wanted op) (right_wanted op (order_of s e)) e f (counts s b (left_wanted op) e) (counts s (after b e) (right_wanted op (order_of s e)) f))
  counts s b w (joined at op es) = counts-front s b w (joined at op es) refl refl (counts-operands s b formula_wanted es)
  counts s b w (shifted at e i) = counts-front s b w (shifted at e i) refl refl (counts s b NumberOrSet e)
  counts s b w (enclosed at k e) = bracket-counts s b w at k e (counts s (opened b k) (content_wanted k) e)
  counts s b w (listed at Literal es) = counts-front s b w (listed at Literal es) refl refl (counts-operands s b number_wanted es)
  counts s b w (listed at (Call n) es) =
      counts-front s b w (listed at (Call n) es) refl refl (counts-arguments (without_exports s) b (parameters_of (meaning_of s n)) es)
  counts s b w (quantified at q o vs e) =
      let here = with_names b (count_of_bounds vs) in
      let inner = under_bounds s b.next vs in
      counts-front s b w (quantified at q o vs e) refl refl
      (counts-append b (after_bounds here vs) (after (after_bounds here vs) e) (inside_bounds s b.next here vs) (occurrences inner (after_bounds here vs) formula_wanted e)
      (counts-names b (count_of_bounds vs) (after_bounds here vs) (inside_bounds s b.next here vs) (counts-bounds s b.next here vs))
      (counts inner (after_bounds here vs) formula_wanted e))
  counts s b w (let_in at o ps e) =
      let here = with_names b (count_of_parts ps) in
      let outer = without_exports s in
      let inner = under_parts outer b.next o ps in
      counts-front s b w (let_in at o ps e) refl refl
      (counts-append b (after_parts here ps) (after (after_parts here ps) e) (inside_parts outer here o ps) (occurrences inner (after_parts here ps) formula_wanted e)
      (counts-names b (count_of_parts ps) (after_parts here ps) (inside_parts outer here o ps) (counts-parts outer here o ps))
      (counts inner (after_parts here ps) formula_wanted e))

  counts-operands : (s : Scope) (b : Before) (w : Wanted) (es : Expressions) → Counts b (inside_operands s b w es) (after_all b es)
  counts-operands s b w no_expressions = (refl, refl)
  counts-operands s b w (and_expression es e) =
      let end = after_all b es in
      counts-append b end (after end e) (inside_operands s b w es) (occurrences s end w e) (counts-operands s b w es) (counts s end w e)

  counts-arguments : (s : Scope) (b : Before) (parameters : List Order) (es : Expressions) → Counts b (inside_arguments s b parameters es) (after_all b es)
  counts-arguments s b parameters no_expressions = (refl, refl)
  counts-arguments s b parameters (and_expression es e) =
      let end = after_all b es in
      let w = wanted_by (slice_get parameters (count es)) in
      counts-append b end (after end e) (inside_arguments s b parameters es) (occurrences s end w e) (counts-arguments s b parameters es) (counts s end w e)

  pub counts-bounds : (s : Scope) (x : ℕ) (b : Before) (vs : Variables) → Counts b (inside_bounds s x b vs) (after_bounds b vs)
  counts-bounds s x b no_variables = (refl, refl)
  counts-bounds s x b (and_variable vs at o n d) =
      let end = after_bounds b vs in
      let inner = without_exports (under_bounds s x (and_variable vs at o n d)) in
      counts-append b end (after_domain end d) (inside_bounds s x b vs) (inside_domain inner end d) (counts-bounds s x b vs) (counts-domain inner end d)

  counts-domain : (s : Scope) (b : Before) (d : Domain) → Counts b (inside_domain s b d) (after_domain b d)
  counts-domain s b unrestricted = (refl, refl)
  counts-domain s b (restricted e) = counts s b formula_wanted e

  counts-parts : (s : Scope) (b : Before) (o : Order) (ps : Parts) → Counts b (inside_parts s b o ps) (after_parts b ps)
  counts-parts s b o no_parts = (refl, refl)
  counts-parts s b o (and_part ps at n e) =
      let end = after_parts b ps in
      counts-append b end (after end e) (inside_parts s b o ps) (occurrences s end (Exactly o) e) (counts-parts s b o ps) (counts s end (Exactly o) e)
