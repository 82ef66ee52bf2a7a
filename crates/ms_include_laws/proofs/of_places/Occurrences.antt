-- What holds of each place of an expression holds of those of the expressions inside it.
use Rattle.std.proofs.Common.{ℕ, List, slice_get}
use Rattle.ms_list.specs.declared.at.At.{At}
use Rattle.ms_logic.specs.declared.mode.Order.{Order}
use Rattle.ms_names_rules.specs.declared.wanted.Wanted.{Wanted}
use Rattle.ms_names_rules.specs.declared.wanted.Wanted.TheVariants.{Exactly, NumberOrSet}
use Rattle.ms_parse_grammar.specs.Tree.{Expression, atom, prefixed, binary, joined, shifted, enclosed, listed, quantified, let_in, Expressions, no_expressions, and_expression, Variables, no_variables, and_variable, Domain, unrestricted, restricted, Parts, no_parts, and_part}
use Rattle.ms_parse_grammar.specs.declared.operator.Listing.TheVariants.{Literal, Call}
use Rattle.ms_names_rules.specs.Rules.{place}
use Rattle.ms_names_rules.specs.Before.{Before, with_names, after, after_bounds, after_parts, after_all, opened}
use Rattle.ms_logic.specs.Lists.{Each}
use Rattle.ms_names_rules.specs.Order.{formula_wanted, number_wanted, order_of, parameters_of, wanted_by, content_wanted, left_wanted, operand_wanted, right_wanted}
use Rattle.ms_names_rules.specs.Occurrence.{Occurrence, occurrences, inside_operands, inside_arguments, inside_bounds, inside_domain, inside_parts}
use Rattle.ms_names_rules.specs.Scope.{Scope, count_of_bounds, count_of_parts, meaning_of, under_bounds, under_parts, without_exports, count}
use Rattle.ms_names_rules.proofs.Fitting.{each-append, each-weaker}
use Rattle.ms_include_laws.specs.inner.places.Laws.{ExpressionsInsideHavePlaces}
use Rattle.ms_include_laws.specs.inner.places.Places.{EachPlaceIn, EachPlaceInAll, EachPlaceInBounds, EachPlaceInDomain, EachPlaceInParts, IsAmongFiles}
use Rattle.ms_include_laws.proofs.of_places.Reading.{place-at}

module _ (P : At → Type 0) where
  -- P holds of each place of the expression that stands there
  abbrev pub StandsAt : Occurrence → Type 0
  StandsAt o = EachPlaceIn P o.expression

  mutual
    pub stand-at : (s : Scope) (b : Before) (w : Wanted) (e : Expression) → EachPlaceIn P e → Each StandsAt (occurrences s b w e)
    stand-at s b w (atom at a) h = (h, tt)
    stand-at s b w (prefixed at op e) h = (h, stand-at s b (operand_wanted op) e h.1)
    stand-at s b w (binary at op e f) h = (
      h,
      each-append StandsAt (occurrences s b (left_wanted op) e) (occurrences s (after b e) (right_wanted op (order_of s e)) f)
          (stand-at s b (left_wanted op) e h.1) (stand-at s (after b e) (right_wanted op (order_of s e)) f h.2),
    )
    stand-at s b w (joined at op es) h = (h, operands-stand s b formula_wanted es h.1)
    stand-at s b w (shifted at e i) h = (h, stand-at s b NumberOrSet e h.1)
    stand-at s b w (enclosed at k e) h = (h, stand-at s (opened b k) (content_wanted k) e h.2)
    stand-at s b w (listed at Literal es) h = (h, operands-stand s b number_wanted es h.1)
    stand-at s b w (listed at (Call n) es) h = (h, arguments-stand (without_exports s) b (parameters_of (meaning_of s n)) es h.1)
    stand-at s b w (quantified at q o vs e) h =
        let here = with_names b (count_of_bounds vs) in
        let end = after_bounds here vs in
        let inner = under_bounds s b.next vs in
        (h, each-append StandsAt (inside_bounds s b.next here vs) (occurrences inner end formula_wanted e) (bounds-stand s b.next here vs h.1) (stand-at inner end formula_wanted e h.2))
    stand-at s b w (let_in at o ps e) h =
        let here = with_names b (count_of_parts ps) in
        let end = after_parts here ps in
        let outer = without_exports s in
        let inner = under_parts outer b.next o ps in
        (h, each-append StandsAt (inside_parts outer here o ps) (occurrences inner end formula_wanted e) (parts-stand outer here o ps h.1) (stand-at inner end formula_wanted e h.2))

    operands-stand : (s : Scope) (b : Before) (w : Wanted) (es : Expressions) → EachPlaceInAll P es → Each StandsAt (inside_operands s b w es)
    operands-stand s b w no_expressions h = tt
    operands-stand s b w (and_expression es e) h =
        each-append StandsAt (inside_operands s b w es) (occurrences s (after_all b es) w e) (operands-stand s b w es h.0) (stand-at s (after_all b es) w e h.1)

    arguments-stand : (s : Scope) (b : Before) (parameters : List Order) (es : Expressions) → EachPlaceInAll P es → Each StandsAt (inside_arguments s b parameters es)
    arguments-stand s b parameters no_expressions h = tt
    arguments-stand s b parameters (and_expression es e) h =
        let w = wanted_by (slice_get parameters (count es)) in
        each-append StandsAt (inside_arguments s b parameters es) (occurrences s (after_all b es) w e) (arguments-stand s b parameters es h.0) (stand-at s (after_all b es) w e h.1)

    pub bounds-stand : (s : Scope) (x : ℕ) (b : Before) (vs : Variables) → EachPlaceInBounds P vs → Each StandsAt (inside_bounds s x b vs)
    bounds-stand s x b no_variables h = tt
    bounds-stand s x b (and_variable vs at o n d) h =
        let inner = without_exports (under_bounds s x (and_variable vs at o n d)) in
        each-append StandsAt (inside_bounds s x b vs) (inside_domain inner (after_bounds b vs) d) (bounds-stand s x b vs h.0) (domain-stands inner (after_bounds b vs) d h.2)

    domain-stands : (s : Scope) (b : Before) (d : Domain) → EachPlaceInDomain P d → Each StandsAt (inside_domain s b d)
    domain-stands s b unrestricted h = tt
    domain-stands s b (restricted e) h = stand-at s b formula_wanted e h

    parts-stand : (s : Scope) (b : Before) (o : Order) (ps : Parts) → EachPlaceInParts P ps → Each StandsAt (inside_parts s b o ps)
    parts-stand s b o no_parts h = tt
    parts-stand s b o (and_part ps at n e) h =
        each-append StandsAt (inside_parts s b o ps) (occurrences s (after_parts b ps) (Exactly o) e) (parts-stand s b o ps h.0) (stand-at s (after_parts b ps) (Exactly o) e h.2)

pub expressions-inside : ExpressionsInsideHavePlaces
expressions-inside base count s b w e h =
    each-weaker (StandsAt (IsAmongFiles base count)) (λ (o : Occurrence). IsAmongFiles base count (place o.expression)) (occurrences s b w e)
    (λ o at. place-at (IsAmongFiles base count) o.expression at) (stand-at (IsAmongFiles base count) s b w e h)
