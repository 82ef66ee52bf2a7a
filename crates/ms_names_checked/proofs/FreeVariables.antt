-- What an expression reads, of the variables in scope, is free in what it becomes, and nothing else is.
use Rattle.std.proofs.Common.{◌≡◌, ℕ, ◌+◌, ◌<◌, ◌≤◌, ◌⊎◌, ◌↔◌, inl, inr, ⊎_elim, List, [], ◌∷◌, ◌++◌, Option, Some, refl, sym, ap, subst, ◌∙◌, arith, append_assoc, take, None}
use Rattle.std.specs.Prelude.{slice_get}
use Rattle.std.specs.Option.{option_and_then}
use Rattle.ms_list.specs.declared.at.At.{At as Place}
use Rattle.ms_logic.specs.declared.checked.ImportUse.{ImportUse}
use Rattle.ms_logic.specs.declared.mode.Order.{Order}
use Rattle.ms_logic.specs.declared.mode.Quant.{Quant}
use Rattle.ms_logic.specs.Assignment.{Variable}
use Rattle.ms_logic.specs.FreeVariables.{IsBound, IsVariable, Reads, FreeInArgument, FreeInArguments, FreeInForms, FreeInRestriction, FreeUnder, SetTermReads, TermReads, TermsRead, orders_of, order_of as order_of_argument}
use Rattle.ms_logic_core.specs.Roots.{exports_among, exports_in, Export}
use Rattle.ms_logic.specs.Tree as tree
use Rattle.ms_logic.specs.Tree.{Argument, truth_argument, number_argument, set_argument, Arguments, Form, Forms, Restriction, Term, Terms}
use Rattle.ms_names_rules.specs.declared.meaning.Meaning.TheVariants as meaning
use Rattle.ms_names_rules.specs.declared.wanted.Wanted.{Wanted}
use Rattle.ms_names_rules.specs.declared.wanted.Wanted.TheVariants.{Exactly, NumberOrSet}
use Rattle.ms_parse_grammar.specs.Tree.{truth, falsity, whole, empty_set, named, numeral, pconst, imported, Expression, atom, prefixed, binary, joined, shifted, enclosed, listed, quantified, let_in, Expressions, no_expressions, and_expression, Variables, no_variables, and_variable, Domain, unrestricted, restricted, Parts, no_parts, and_part, Atom}
use Rattle.ms_parse_grammar.specs.declared.operator.Junction.TheVariants.{Conjunction, Disjunction}
use Rattle.ms_parse_grammar.specs.declared.operator.Bracket.TheVariants as bracket
use Rattle.ms_parse_grammar.specs.declared.operator.Bracket.TheVariants.{Parentheses, Emptiness}
use Rattle.ms_parse_grammar.specs.declared.operator.Listing.TheVariants.{Literal, Call}
use Rattle.ms_names_rules.specs.Scope.{Bytes, Scope, bind, count_of_bounds, count_of_parts, default_of, meaning_of, under_bounds, under_parts, without_exports, count}
use Rattle.ms_names_rules.specs.Before.{Before, with_names, with_export, after, after_all, after_bounds, after_domain, after_parts, opened}
use Rattle.ms_names_rules.specs.Constant.{value_of}
use Rattle.ms_names_rules.specs.inner.Free.{Readings}
use Rattle.ms_names_rules.specs.Numbers.{Tables}
use Rattle.ms_logic.specs.Lists.{Each}
use Rattle.ms_names_rules.specs.Order.{formula_wanted, number_wanted, order_of, parameters_of, content_wanted, left_wanted, operand_wanted, right_wanted, wanted_by}
use Rattle.ms_names_rules.specs.Occurrence.{Occurrence, standing, occurrences, inside_operands, inside_arguments, inside_bounds, inside_domain, inside_parts}
use Rattle.ms_names_rules.specs.Reads.{readings_at, readings_of_bounds, readings_of_default, readings_of_renames}
use Rattle.ms_names_rules.specs.Typed.{default_restriction, formula_in, number_in, set_in, numbers_of_parts, of_order, typed, typed_arguments, typed_domain, typed_formulas, typed_numbers, typed_parts, typed_quantifiers, argument_behind, argument_for, formula_behind, joined_formula, number_behind, typed_atom, typed_binary, typed_bracket, typed_prefix, quantifier}
use Rattle.ms_names_rules.specs.Uses.{pairs_of}
use Rattle.ms_names_rules.proofs.Exports.{typed-same, under_parts-same}
use Rattle.ms_names_rules.proofs.Fitting.{If, each-back, each-front, if-any, if-one, if-weaker}
use Rattle.ms_names_rules.proofs.Growth.{grows, grows-bounds, grows-domain, grows-parts, grows-all, opened-grows}
use Rattle.ms_names_rules.proofs.Numbering.{UsesStand, if-two}
use Rattle.ms_names_checked.proofs.Hiding.{at-bind, at-bounds, at-later, at-parts, at-without, hide-one, hide-parts, orders_of_parts, At}
use Rattle.ms_names_checked.proofs.Leading.{Any, LeadsTo, Reaches, any-back, any-front, any-split}
use Rattle.ms_names_checked.proofs.Scopes.{IsMeaning, default-known, in-scope-below, meaning-known, Names}
use Rattle.ms_names_checked.proofs.Told.{IsPaired, OrderTold, Told, call-told, formula-told, name-told, number-told, only, order-told, pairs-told, set-told, shift-told, told-drop, told-front, told-join, told-none, told-same, told-two}
use Rattle.ms_names_checked.proofs.Expressions.{ArgumentTold, FormTold, FormsTold, NumberTold, NumbersTold, SetTold, SidesTold, default-told, default-under, entry-lists, leaf, readings-split, readings_of_domain}
use Rattle.ms_names_checked.proofs.Operators.{Combines, prefix-holds, binary-holds}
use Rattle.ms_parse_grammar.specs.declared.operator.Bracket.{Bracket}
use Rattle.ms_names_rules.specs.inner.Examples.{less}
use Rattle.std.proofs.lemmas.List.{append-nil}
use Rattle.ms_names_checked.proofs.Expressions.{domain-under, numbers-under, sets-under}
use Rattle.ms_parse_grammar.specs.declared.operator.Junction.{Junction}
use Rattle.ms_names_rules.proofs.Behind.{taken-orders}

-- what is free in lists with one more behind

only_last : {C : Type 0} → (⊥ ⊎ C) ↔ (C ⊎ ⊥)
only_last = (λ free. ⊎_elim (λ none. absurd none) (λ last. inl last) free, λ free. inr (only free))

behind_first : {A B C D : Type 0} → (B ⊎ C) ↔ D → ((A ⊎ B) ⊎ C) ↔ (A ⊎ D)
behind_first rest = (
  λ free. ⊎_elim (λ before. ⊎_elim (λ own. inl own) (λ later. inr (rest.0 (inl later))) before) (λ last. inr (rest.0 (inr last))) free,
  λ free. ⊎_elim (λ own. inl (inl own)) (λ later. ⊎_elim (λ before. inl (inr before)) (λ last. inr last) (rest.1 later)) free,
)

terms-read : (ts : Terms) (t : Term) (v : Variable) → (TermsRead ts v ⊎ TermReads t v) ↔ TermsRead (number_behind ts t) v
terms-read tree.no_terms t v = only_last
terms-read (tree.more_terms first ts) t v = behind_first (terms-read ts t v)

forms-free : (r : Reads) (fs : Forms) (f : Form) (v : Variable) → (FreeInForms r fs v ⊎ FreeUnder r f v) ↔ FreeInForms r (formula_behind fs f) v
forms-free r tree.no_forms f v = only_last
forms-free r (tree.more_forms first fs) f v = behind_first (forms-free r fs f v)

arguments-free : (r : Reads) (given : Arguments) (a : Argument) (v : Variable) → (FreeInArguments r given v ⊎ FreeInArgument r a v) ↔ FreeInArguments r (argument_behind given a) v
arguments-free r tree.no_arguments a v = only_last
arguments-free r (tree.more_arguments first more) a v = behind_first (arguments-free r more a v)

exports-last : (fs : Forms) (f : Form) → exports_among (formula_behind fs f) ≡ exports_among fs ++ exports_in f
exports-last tree.no_forms f = append-nil (exports_in f)
exports-last (tree.more_forms first fs) f =
    ap (λ es. exports_in first ++ es) (exports-last fs f) ∙ sym (append_assoc (exports_in first) (exports_among fs) (exports_in f))

orders-last : (given : Arguments) (a : Argument) → orders_of (argument_behind given a) ≡ orders_of given ++ order_of_argument a ∷ []
orders-last tree.no_arguments a = refl
orders-last (tree.more_arguments first more) a = ap (λ os. order_of_argument first ∷ os) (orders-last more a)

module _ (tables : Tables) (r : Reads) (R : List Readings) (low : ℕ)
    (imports : (i : ℕ) (used : ImportUse) (w : Variable) → slice_get tables.imports i ≡ Some used → r.imported i w ↔ IsPaired used.pairs w) where
  -- the same variables, said of a list with one more behind
  told-behind : (high : ℕ) (names : Names) (Q : ℕ → Type 0) (F G H : Variable → Type 0) (es ds all : List Export) → all ≡ es ++ ds → ((v : Variable) → (F v ⊎ G v) ↔ H v) →
      Told r tables.exports low high names Q (λ v. F v ⊎ G v) (es ++ ds) → Told r tables.exports low high names Q H all
  told-behind high names Q F G H es ds all same free h =
      subst (λ there. Told r tables.exports low high names Q H there) (sym same)
      (told-same r tables.exports R low high high names Q Q (λ v. F v ⊎ G v) H (es ++ ds) (omega arith) (λ y. (λ any. any, λ any. any)) free h)

  -- an argument has the order of its parameter
  abbrev ParameterTold : ℕ → Names → List Occurrence → Option Order → Argument → Type 0
  ParameterTold high names os o a = ArgumentTold tables r R low high names os a × (Some (order_of_argument a) ≡ o)

  parameter-told : (high : ℕ) (names : Names) (os : List Occurrence) (o : Option Order) (a : Option Argument) → If (ArgumentTold tables r R low high names os) a →
      If (ParameterTold high names os o) (argument_for o a)
  parameter-told high names os None a h = tt
  parameter-told high names os (Some o) a h =
      if-weaker (OrderTold r tables.exports R low high names (Reaches R os) o) (ParameterTold high names os (Some o)) (option_and_then (of_order o) a) (λ b k. (k.0, ap Some k.1))
      (order-told r tables.exports R low high names (Reaches R os) o a h)

  -- an expression that reads what those inside it read
  front-told : (high : ℕ) (names : Names) (o : Occurrence) (os : List Occurrence) (a : Option Argument) → ((x : ℕ) → Any (LeadsTo R x) (readings_at o) → ⊥) →
      If (ArgumentTold tables r R low high names os) a → If (ArgumentTold tables r R low high names (o ∷ os)) a
  front-told high names o os a none h =
      if-weaker (ArgumentTold tables r R low high names os) (ArgumentTold tables r R low high names (o ∷ os)) a (λ b k. told-front r tables.exports R low o os none k) h

  atom-told : (start : ℕ) (s : Scope) (b : Before) (w : Wanted) (at : Place) (a : Atom) → At r R low start s b.next → Each (UsesStand tables) (occurrences s b w (atom at a)) →
      If (ArgumentTold tables r R low b.next s.names (standing s b w (atom at a) ∷ [])) (typed_atom s b a)
  atom-told start s b w at truth here uses = leaf tables r R low b.next s.names (standing s b w (atom at truth)) (λ v. FreeInArgument r (truth_argument tree.truth) v) (λ x none. none) (λ v none. none)
  atom-told start s b w at falsity here uses = leaf tables r R low b.next s.names (standing s b w (atom at falsity)) (λ v. FreeInArgument r (truth_argument tree.falsity) v) (λ x none. none) (λ v none. none)
  atom-told start s b w at whole here uses = leaf tables r R low b.next s.names (standing s b w (atom at whole)) (λ v. FreeInArgument r (set_argument tree.whole) v) (λ x none. none) (λ v none. none)
  atom-told start s b w at empty_set here uses = leaf tables r R low b.next s.names (standing s b w (atom at empty_set)) (λ v. FreeInArgument r (set_argument tree.empty_set) v) (λ x none. none) (λ v none. none)
  atom-told start s b w at (named n) here uses =
      name-told r tables.exports R low start b.next s.names (meaning_of s n) here.begun here.knows.falls
      (meaning-known (IsMeaning r R low start s.names) s.names n here.knows.names)
  atom-told start s b w at (numeral n) here uses =
      leaf tables r R low b.next s.names (standing s b w (atom at (numeral n))) (λ v. FreeInArgument r (number_argument (tree.numeral n)) v) (λ x none. none) (λ v none. none)
  atom-told start s b w at (pconst i) here uses =
      if-one (λ k. Unit {0}) (ArgumentTold tables r R low b.next s.names (standing s b w (atom at (pconst i)) ∷ [])) (λ k. set_argument (tree.pconst k)) (value_of s i)
      (λ k h. leaf tables r R low b.next s.names (standing s b w (atom at (pconst i))) (λ v. FreeInArgument r (set_argument (tree.pconst k)) v) (λ x none. none) (λ v none. none)) (if-any (value_of s i))
  atom-told start s b w at (imported file rs) here uses =
      let used : ImportUse = record { at = at; name = file; pairs = pairs_of s rs } in
      told-same r tables.exports R low b.next b.next s.names (λ y. Any (LeadsTo R y) (readings_of_renames s rs)) (Reaches R (standing s b w (atom at (imported file rs)) ∷ []))
      (λ v. IsPaired (pairs_of s rs) v) (λ v. FreeInArgument r (truth_argument (tree.imported b.imports)) v) [] (omega arith) (λ y. (λ any. inl any, λ any. only any))
      (λ v. let both = imports b.imports used v uses.0.0.0 in (both.1, both.0)) (pairs-told r tables.exports R low start b.next s rs here.knows)

  -- what operators read is what their operands read
  two-told : (middle end : ℕ) (names : Names) (os ps : List Occurrence) → middle ≤ end →
      Combines (ArgumentTold tables r R low end names (os ++ ps)) (ArgumentTold tables r R low middle names os) (ArgumentTold tables r R low end names ps)
  two-told middle end names os ps le = record {
    implied = λ f g h k. told-two r tables.exports R low middle end names os ps (λ v. FreeUnder r f v) (λ v. FreeUnder r g v) (exports_in f) (exports_in g) le h k;
    equated = λ f g h k. told-two r tables.exports R low middle end names os ps (λ v. FreeUnder r f v) (λ v. FreeUnder r g v) (exports_in f) (exports_in g) le h k;
    numbers = λ q is t u h k. told-two r tables.exports R low middle end names os ps (λ v. TermReads t v) (λ v. TermReads u v) [] [] le h k;
    sets = λ q is t u h k. told-two r tables.exports R low middle end names os ps (λ v. SetTermReads t v) (λ v. SetTermReads u v) [] [] le h k;
    members = λ positive t u h k. told-two r tables.exports R low middle end names os ps (λ v. TermReads t v) (λ v. SetTermReads u v) [] [] le h k;
    united = λ t u h k. told-two r tables.exports R low middle end names os ps (λ v. SetTermReads t v) (λ v. SetTermReads u v) [] [] le h k;
    met = λ t u h k. told-two r tables.exports R low middle end names os ps (λ v. SetTermReads t v) (λ v. SetTermReads u v) [] [] le h k;
    left = λ t u h k. told-two r tables.exports R low middle end names os ps (λ v. SetTermReads t v) (λ v. SetTermReads u v) [] [] le h k;
  }

  joined-told : (op : Junction) (high : ℕ) (names : Names) (os : List Occurrence) (fs : Forms) → FormsTold tables r R low high names os fs →
      ArgumentTold tables r R low high names os (truth_argument (joined_formula op fs))
  joined-told Conjunction high names os fs h = h
  joined-told Disjunction high names os fs h = h

  bracket-told : (start : ℕ) (s : Scope) (b : Before) (w : Wanted) (at : Place) (k : Bracket) (e : Expression) → At r R low start s b.next →
      Each (UsesStand tables) (occurrences s b w (enclosed at k e)) →
      If (ArgumentTold tables r R low (after (opened b k) e).next s.names (occurrences s (opened b k) (content_wanted k) e)) (typed s (opened b k) e) →
      If (ArgumentTold tables r R low (after (opened b k) e).next s.names (occurrences s b w (enclosed at k e))) (typed_bracket b k (typed s (opened b k) e))
  bracket-told start s b w at Parentheses e here uses h =
      front-told (after b e).next s.names (standing s b w (enclosed at Parentheses e)) (occurrences s b (content_wanted Parentheses) e) (typed s b e) (λ x none. none) h
  bracket-told start s b w at Emptiness e here uses h =
      let os = occurrences s b (content_wanted Emptiness) e in
      let last = (after b e).next in
      if-one (SetTold tables r R low last s.names os) (ArgumentTold tables r R low last s.names (occurrences s b w (enclosed at Emptiness e))) (λ t. truth_argument (tree.emptiness t)) (set_in (typed s b e))
      (λ t k. told-front r tables.exports R low (standing s b w (enclosed at Emptiness e)) os (λ x none. none) k)
      (set-told r tables.exports R low last s.names (Reaches R os) (typed s b e) h)
  bracket-told start s b w at bracket.Restriction e here uses h =
      let os = occurrences s b (content_wanted bracket.Restriction) e in
      let last = (after b e).next in
      if-one (FormTold tables r R low last s.names os) (ArgumentTold tables r R low last s.names (occurrences s b w (enclosed at bracket.Restriction e))) (λ f. truth_argument (tree.restrict f)) (formula_in (typed s b e))
      (λ f k. told-front r tables.exports R low (standing s b w (enclosed at bracket.Restriction e)) os (λ x none. none) k)
      (formula-told r tables.exports R low last s.names (Reaches R os) (typed s b e) h)
  bracket-told start s b w at (bracket.Export text_at file) e here uses h =
      let os = occurrences s (with_export b) formula_wanted e in
      let last = (after (with_export b) e).next in
      if-one (FormTold tables r R low last s.names os) (ArgumentTold tables r R low last s.names (occurrences s b w (enclosed at (bracket.Export text_at file) e))) (λ f. truth_argument (tree.exported b.exports f))
      (formula_in (typed s (with_export b) e))
      (λ f k.
      let front : FormTold tables r R low last s.names (standing s b w (enclosed at (bracket.Export text_at file) e) ∷ os) f =
      told-front r tables.exports R low (standing s b w (enclosed at (bracket.Export text_at file) e)) os (λ x none. none) k in
      record {
        free = front.free;
        back = front.back;
        old = front.old;
        listed = (entry-lists tables r R low last start s b text_at file e f here k uses.0.1.0, front.listed);
      })
      (formula-told r tables.exports R low last s.names (Reaches R os) (typed s (with_export b) e) h)

  mutual
    pub told : (start : ℕ) (s : Scope) (b : Before) (w : Wanted) (e : Expression) → At r R low start s b.next → Each (UsesStand tables) (occurrences s b w e) →
        If (ArgumentTold tables r R low (after b e).next s.names (occurrences s b w e)) (typed s b e)
    told start s b w (atom at truth) here uses = atom-told start s b w at truth here uses
    told start s b w (atom at falsity) here uses = atom-told start s b w at falsity here uses
    told start s b w (atom at whole) here uses = atom-told start s b w at whole here uses
    told start s b w (atom at empty_set) here uses = atom-told start s b w at empty_set here uses
    told start s b w (atom at (named n)) here uses = atom-told start s b w at (named n) here uses
    told start s b w (atom at (numeral n)) here uses = atom-told start s b w at (numeral n) here uses
    told start s b w (atom at (pconst i)) here uses = atom-told start s b w at (pconst i) here uses
    told start s b w (atom at (imported file rs)) here uses = atom-told start s b w at (imported file rs) here uses
    told start s b w (prefixed at op e) here uses =
        let os = occurrences s b (operand_wanted op) e in
        front-told (after b e).next s.names (standing s b w (prefixed at op e)) os (typed_prefix op (typed s b e)) (λ x none. none)
        (prefix-holds (ArgumentTold tables r R low (after b e).next s.names os) (ArgumentTold tables r R low (after b e).next s.names os) op (typed s b e) (λ f k. k) (λ t k. k) (λ t k. k)
        (told start s b (operand_wanted op) e here uses.1))
    told start s b w (binary at op e f) here uses =
        let os = occurrences s b (left_wanted op) e in
        let ps = occurrences s (after b e) (right_wanted op (order_of s e)) f in
        let middle = (after b e).next in
        let end = (after (after b e) f).next in
        front-told end s.names (standing s b w (binary at op e f)) (os ++ ps) (typed_binary op (typed s b e) (typed s (after b e) f)) (λ x none. none)
        (binary-holds (ArgumentTold tables r R low end s.names (os ++ ps)) (ArgumentTold tables r R low middle s.names os) (ArgumentTold tables r R low end s.names ps) op
        (typed s b e) (typed s (after b e) f) (two-told middle end s.names os ps (grows (after b e) f))
        (told start s b (left_wanted op) e here (each-front (UsesStand tables) os ps uses.1))
        (told start s (after b e) (right_wanted op (order_of s e)) f (at-later r R low start s b.next middle (grows b e) here) (each-back (UsesStand tables) os ps uses.1)))
    told start s b w (joined at op es) here uses =
        let os = inside_operands s b formula_wanted es in
        let last = (after_all b es).next in
        if-one (FormsTold tables r R low last s.names os) (ArgumentTold tables r R low last s.names (occurrences s b w (joined at op es))) (λ fs. truth_argument (joined_formula op fs)) (typed_formulas s b es)
        (λ fs h. told-front r tables.exports R low (standing s b w (joined at op es)) os (λ x none. none) (joined-told op last s.names os fs h)) (formulas-all start s b es here uses.1)
    told start s b w (shifted at e i) here uses =
        let os = occurrences s b NumberOrSet e in
        front-told (after b e).next s.names (standing s b w (shifted at e i)) os (typed s b (shifted at e i)) (λ x none. none)
        (shift-told r tables.exports R low (after b e).next s.names (Reaches R os) i.minus (value_of s i) (typed s b e) (told start s b NumberOrSet e here uses.1))
    told start s b w (enclosed at k e) here uses =
        bracket-told start s b w at k e here uses
        (told start s (opened b k) (content_wanted k) e (at-later r R low start s b.next (opened b k).next (opened-grows b k) here) uses.1)
    told start s b w (listed at Literal es) here uses =
        if-one (NumbersTold tables r R low (after_all b es).next s.names (inside_operands s b number_wanted es)) (ArgumentTold tables r R low (after_all b es).next s.names (occurrences s b w (listed at Literal es)))
        (λ ts. set_argument (tree.literal ts)) (typed_numbers s b es)
        (λ ts h. told-front r tables.exports R low (standing s b w (listed at Literal es)) (inside_operands s b number_wanted es) (λ x none. none) h) (numbers-all start s b es here uses.1)
    told start s b w (listed at (Call n) es) here uses =
        let parameters = parameters_of (meaning_of s n) in
        call-told r tables.exports R low start (after_all b es).next s.names (meaning_of s n) (count es) (typed_arguments s b parameters es)
        (inside_arguments (without_exports s) b parameters es) (let begun = here.begun in let more = grows-all b es in omega (arith, begun, more))
        (meaning-known (IsMeaning r R low start s.names) s.names n here.knows.names)
        (arguments-all start s b parameters es here uses.1)
    told start s b w (quantified at q o vs e) here uses =
        let next = with_names b (count_of_bounds vs) in
        let end = after_bounds next vs in
        let last = (after end e).next in
        let inner = under_bounds s b.next vs in
        let before = inside_bounds s b.next next vs in
        let within = occurrences inner end formula_wanted e in
        let own = readings_of_bounds s vs in
        let Q : ℕ → Type 0 = λ y. Any (LeadsTo R y) (own ++ []) ⊎ Reaches R (before ++ within) y in
        if-one (λ f. Told r tables.exports low last s.names Q (λ v. FreeUnder r f v) (exports_in f)) (ArgumentTold tables r R low last s.names (standing s b w (quantified at q o vs e) ∷ (before ++ within)))
        (λ f. truth_argument f) (typed_quantifiers s b.next next q vs (formula_in (typed inner end e)))
        (λ f h. subst (λ rs. Told r tables.exports low last s.names (λ y. Any (LeadsTo R y) rs ⊎ Reaches R (before ++ within) y) (λ v. FreeUnder r f v) (exports_in f)) (append-nil own) h)
        (quantifiers-all start s b.next next q vs (formula_in (typed inner end e)) last [] within here (omega arith) (grows end e) (each-front (UsesStand tables) before within uses.1)
        (if-weaker (FormTold tables r R low last inner.names within)
        (λ g. Told r tables.exports low last inner.names (λ y. ⊥ ⊎ Reaches R within y) (λ v. FreeUnder r g v) (exports_in g)) (formula_in (typed inner end e))
        (λ g h. told-same r tables.exports R low last last inner.names (Reaches R within) (λ y. ⊥ ⊎ Reaches R within y) (λ v. FreeUnder r g v) (λ v. FreeUnder r g v) (exports_in g) (omega arith)
        (λ y. (λ any. inr any, λ any. ⊎_elim (λ none. absurd none) (λ inside. inside) any)) (λ v. (λ free. free, λ free. free)) h)
        (formula-told r tables.exports R low last inner.names (Reaches R within) (typed inner end e)
        (told start inner end formula_wanted e (at-bounds r R low start s b.next end.next vs (grows-bounds next vs) here) (each-back (UsesStand tables) before within uses.1)))))
    told start s b w (let_in at o ps e) here uses =
        let next = with_names b (count_of_parts ps) in
        let end = after_parts next ps in
        let last = (after end e).next in
        let outer = without_exports s in
        let inner = under_parts outer b.next o ps in
        let plain = under_parts s b.next o ps in
        let before = inside_parts outer next o ps in
        let within = occurrences inner end formula_wanted e in
        let xs = numbers_of_parts b.next ps in
        let more = grows-parts next ps in
        let rest = grows end e in
        let Hidden : Form → Variable → Type 0 = λ f v. (IsBound xs (orders_of_parts o ps) v → ⊥) × FreeUnder r f v in
        if-two (SidesTold tables r R low end.next s.names before (orders_of_parts o ps)) (FormTold tables r R low last inner.names within) (ArgumentTold tables r R low last s.names (occurrences s b w (let_in at o ps e)))
        (λ sides f. truth_argument (tree.where_let xs sides f)) (typed_parts s next o ps) (formula_in (typed plain end e))
        (λ sides f h k. told-front r tables.exports R low (standing s b w (let_in at o ps e)) (before ++ within) (λ x none. none)
        (told-drop r tables.exports R low
        (told-same r tables.exports R low last last s.names (Reaches R (before ++ within)) (Reaches R (before ++ within)) (λ v. FreeInArguments r sides v ⊎ Hidden f v)
        (λ v. FreeInArgument r (truth_argument (tree.where_let xs sides f)) v) (exports_in f) (omega arith) (λ y. (λ any. any, λ any. any))
        (λ v. (
          λ free. ⊎_elim (λ side. inl side) (λ body. inr (λ bound. body.0 (subst (λ orders. IsBound xs orders v) h.1 bound), body.1)) free,
          λ free. ⊎_elim (λ side. inl side) (λ body. inr (λ bound. body.0 (subst (λ orders. IsBound xs orders v) (sym h.1) bound), body.1)) free,
        ))
        (told-two r tables.exports R low end.next last s.names before within (λ v. FreeInArguments r sides v) (λ v. Hidden f v) [] (exports_in f) (grows end e) h.0
        (hide-parts r tables.exports low last outer b.next o ps (Reaches R within) (λ v. FreeUnder r f v) (exports_in f) here.from (omega (arith, more, rest)) here.below k)))))
        (parts-all start s next o ps (at-later r R low start s b.next next.next (omega arith) here) (each-front (UsesStand tables) before within uses.1))
        (formula-told r tables.exports R low last inner.names (Reaches R within) (typed plain end e)
        (subst (λ a. If (ArgumentTold tables r R low last inner.names within) a) (typed-same inner plain end e (under_parts-same outer s b.next o ps refl))
        (told start inner end formula_wanted e (at-parts r R low start outer b.next end.next o ps (grows-parts next ps) (at-without r R low start s b.next here))
        (each-back (UsesStand tables) before within uses.1))))

    numbers-all : (start : ℕ) (s : Scope) (b : Before) (es : Expressions) → At r R low start s b.next → Each (UsesStand tables) (inside_operands s b number_wanted es) →
        If (NumbersTold tables r R low (after_all b es).next s.names (inside_operands s b number_wanted es)) (typed_numbers s b es)
    numbers-all start s b no_expressions here uses = told-none r tables.exports R low b.next s.names (Reaches R []) (λ v. ⊥) (λ x none. none) (λ v none. none)
    numbers-all start s b (and_expression es e) here uses =
        let begin = after_all b es in
        let os = inside_operands s b number_wanted es in
        let ps = occurrences s begin number_wanted e in
        let end = (after begin e).next in
        if-two (NumbersTold tables r R low begin.next s.names os) (NumberTold tables r R low end s.names ps) (NumbersTold tables r R low end s.names (os ++ ps)) number_behind
        (typed_numbers s b es) (number_in (typed s begin e))
        (λ ts t h k. told-behind end s.names (Reaches R (os ++ ps)) (λ v. TermsRead ts v) (λ v. TermReads t v) (λ v. TermsRead (number_behind ts t) v) [] [] [] refl (terms-read ts t)
        (told-two r tables.exports R low begin.next end s.names os ps (λ v. TermsRead ts v) (λ v. TermReads t v) [] [] (grows begin e) h k))
        (numbers-all start s b es here (each-front (UsesStand tables) os ps uses))
        (number-told r tables.exports R low end s.names (Reaches R ps) (typed s begin e)
        (told start s begin number_wanted e (at-later r R low start s b.next begin.next (grows-all b es) here) (each-back (UsesStand tables) os ps uses)))

    formulas-all : (start : ℕ) (s : Scope) (b : Before) (es : Expressions) → At r R low start s b.next → Each (UsesStand tables) (inside_operands s b formula_wanted es) →
        If (FormsTold tables r R low (after_all b es).next s.names (inside_operands s b formula_wanted es)) (typed_formulas s b es)
    formulas-all start s b no_expressions here uses = told-none r tables.exports R low b.next s.names (Reaches R []) (λ v. ⊥) (λ x none. none) (λ v none. none)
    formulas-all start s b (and_expression es e) here uses =
        let begin = after_all b es in
        let os = inside_operands s b formula_wanted es in
        let ps = occurrences s begin formula_wanted e in
        let end = (after begin e).next in
        if-two (FormsTold tables r R low begin.next s.names os) (FormTold tables r R low end s.names ps) (FormsTold tables r R low end s.names (os ++ ps)) formula_behind
        (typed_formulas s b es) (formula_in (typed s begin e))
        (λ fs f h k. told-behind end s.names (Reaches R (os ++ ps)) (λ v. FreeInForms r fs v) (λ v. FreeUnder r f v) (λ v. FreeInForms r (formula_behind fs f) v)
        (exports_among fs) (exports_in f) (exports_among (formula_behind fs f)) (exports-last fs f) (forms-free r fs f)
        (told-two r tables.exports R low begin.next end s.names os ps (λ v. FreeInForms r fs v) (λ v. FreeUnder r f v) (exports_among fs) (exports_in f) (grows begin e) h k))
        (formulas-all start s b es here (each-front (UsesStand tables) os ps uses))
        (formula-told r tables.exports R low end s.names (Reaches R ps) (typed s begin e)
        (told start s begin formula_wanted e (at-later r R low start s b.next begin.next (grows-all b es) here) (each-back (UsesStand tables) os ps uses)))

    arguments-all : (start : ℕ) (s : Scope) (b : Before) (parameters : List Order) (es : Expressions) → At r R low start s b.next →
        Each (UsesStand tables) (inside_arguments (without_exports s) b parameters es) →
        If (SidesTold tables r R low (after_all b es).next s.names (inside_arguments (without_exports s) b parameters es) (take (count es) parameters)) (typed_arguments s b parameters es)
    arguments-all start s b parameters no_expressions here uses =
        (told-none r tables.exports R low b.next s.names (Reaches R []) (λ v. ⊥) (λ x none. none) (λ v none. none), refl)
    arguments-all start s b parameters (and_expression es e) here uses =
        let outer = without_exports s in
        let begin = after_all b es in
        let o = slice_get parameters (count es) in
        let os = inside_arguments outer b parameters es in
        let ps = occurrences outer begin (wanted_by o) e in
        let end = (after begin e).next in
        if-two (SidesTold tables r R low begin.next s.names os (take (count es) parameters)) (ParameterTold end s.names ps o) (SidesTold tables r R low end s.names (os ++ ps) (take (count es + 1) parameters))
        argument_behind (typed_arguments s b parameters es) (argument_for o (typed s begin e))
        (λ given a h k. (
          told-behind end s.names (Reaches R (os ++ ps)) (λ v. FreeInArguments r given v) (λ v. FreeInArgument r a v) (λ v. FreeInArguments r (argument_behind given a) v) [] [] [] refl (arguments-free r given a)
              (told-two r tables.exports R low begin.next end s.names os ps (λ v. FreeInArguments r given v) (λ v. FreeInArgument r a v) [] [] (grows begin e) h.0 (told-drop r tables.exports R low k.0)),
          orders-last given a ∙ (ap (λ qs. qs ++ order_of_argument a ∷ []) h.1 ∙ taken-orders parameters (count es) (order_of_argument a) k.1),
        ))
        (arguments-all start s b parameters es here (each-front (UsesStand tables) os ps uses))
        (parameter-told end s.names ps o (typed s begin e)
        (subst (λ a. If (ArgumentTold tables r R low end s.names ps) a) (typed-same outer s begin e refl)
        (told start outer begin (wanted_by o) e (at-later r R low start outer b.next begin.next (grows-all b es) (at-without r R low start s b.next here)) (each-back (UsesStand tables) os ps uses))))

    -- quantifiers round a body which reads some readings and what some expressions read
    pub quantifiers-all : (start : ℕ) (s : Scope) (x : ℕ) (b : Before) (q : Quant) (vs : Variables) (f : Option Form) (last : ℕ) (rs : Readings) (os : List Occurrence) → At r R low start s x →
        x + count_of_bounds vs ≤ b.next → (after_bounds b vs).next ≤ last → Each (UsesStand tables) (inside_bounds s x b vs) →
        If (λ g. Told r tables.exports low last (under_bounds s x vs).names (λ y. Any (LeadsTo R y) rs ⊎ Reaches R os y) (λ v. FreeUnder r g v) (exports_in g)) f →
        If (λ g. Told r tables.exports low last s.names (λ y. Any (LeadsTo R y) (readings_of_bounds s vs ++ rs) ⊎ Reaches R (inside_bounds s x b vs ++ os) y) (λ v. FreeUnder r g v) (exports_in g))
        (typed_quantifiers s x b q vs f)
    quantifiers-all start s x b q no_variables f last rs os here le ends uses body = body
    quantifiers-all start s x b q (and_variable vs at o n d) f last rs os here le ends uses body =
        let there = under_bounds s x vs in
        let z = x + count_of_bounds vs in
        let begin = after_bounds b vs in
        let end = after_domain begin d in
        let inner = bind n (meaning.Variable z o) there in
        let before = inside_bounds s x b vs in
        let dom = inside_domain (without_exports inner) begin d in
        let grown = grows-bounds b vs in
        let more = grows-domain begin d in
        let below : end.next ≤ last = ends in
        let own = readings_of_domain there o d in
        let deep = readings_of_bounds s vs in
        let begun : At r R low start there z = at-bounds r R low start s x z vs (omega arith) here in
        let P : ℕ → Occurrence → Type 0 = λ y occurrence. Any (LeadsTo R y) (readings_at occurrence) in
        let QD : ℕ → Type 0 = λ y. Any (LeadsTo R y) own ⊎ Reaches R dom y in
        let QB : ℕ → Type 0 = λ y. Any (LeadsTo R y) rs ⊎ Reaches R os y in
        let QI : ℕ → Type 0 = λ y. Any (LeadsTo R y) (own ++ rs) ⊎ Reaches R (dom ++ os) y in
        let split : deep ++ (own ++ rs) ≡ readings_of_bounds s (and_variable vs at o n d) ++ rs =
        sym (append_assoc deep own rs)
        ∙ ap (λ all. all ++ rs) (sym (readings-split s at o n d vs ∙ ap (λ last_one. deep ++ last_one) (domain-under s there o d (sym (numbers-under s x vs)) (sym (sets-under s x vs))))) in
        let T : Readings → List Occurrence → Form → Type 0 =
        λ all inside g. Told r tables.exports low last s.names (λ y. Any (LeadsTo R y) all ⊎ Reaches R inside y) (λ v. FreeUnder r g v) (exports_in g) in
        subst (λ all. If (T all ((before ++ dom) ++ os)) (typed_quantifiers s x b q (and_variable vs at o n d) f)) split
        (subst (λ inside. If (T (deep ++ (own ++ rs)) inside) (typed_quantifiers s x b q (and_variable vs at o n d) f)) (sym (append_assoc before dom os))
        (quantifiers-all start s x b q vs (quantifier q o z (typed_domain inner begin o z d) f) last (own ++ rs) (dom ++ os) here (omega (arith, le)) (omega (arith, more, below))
        (each-front (UsesStand tables) before dom uses)
        (if-two (λ restriction. Told r tables.exports low end.next there.names QD (λ v. (IsVariable z o v → ⊥) × FreeInRestriction r restriction v) [])
        (λ g. Told r tables.exports low last inner.names QB (λ v. FreeUnder r g v) (exports_in g))
        (λ g. Told r tables.exports low last there.names QI (λ v. FreeUnder r g v) (exports_in g)) (λ restriction g. tree.quantified q o z restriction g)
        (typed_domain inner begin o z d) f
        (λ restriction g h k.
        told-same r tables.exports R low last last there.names (λ y. QD y ⊎ QB y) QI
        (λ v. ((IsVariable z o v → ⊥) × FreeInRestriction r restriction v) ⊎ ((IsVariable z o v → ⊥) × FreeUnder r g v)) (λ v. FreeUnder r (tree.quantified q o z restriction g) v) (exports_in g) (omega arith)
        (λ y. (
          λ any. ⊎_elim (λ first. ⊎_elim (λ mine. inl (any-front (LeadsTo R y) own rs mine)) (λ inside. inr (any-front (P y) dom os inside)) first)
              (λ second. ⊎_elim (λ mine. inl (any-back (LeadsTo R y) own rs mine)) (λ inside. inr (any-back (P y) dom os inside)) second) any,
          λ any. ⊎_elim (λ mine. ⊎_elim (λ first. inl (inl first)) (λ second. inr (inl second)) (any-split (LeadsTo R y) own rs mine))
              (λ inside. ⊎_elim (λ first. inl (inr first)) (λ second. inr (inr second)) (any-split (P y) dom os inside)) any,
        ))
        (λ v. (
          λ free. ⊎_elim (λ first. (first.0, inl first.1)) (λ second. (second.0, inr second.1)) free,
          λ free. ⊎_elim (λ first. inl (free.0, first)) (λ second. inr (free.0, second)) free.1,
        ))
        (told-join r tables.exports R low end.next last there.names QD QB (λ v. (IsVariable z o v → ⊥) × FreeInRestriction r restriction v) (λ v. (IsVariable z o v → ⊥) × FreeUnder r g v) [] (exports_in g)
        below h
        (hide-one r tables.exports low last there.names z o n QB (λ v. FreeUnder r g v) (exports_in g) begun.from (omega (arith, le, grown, more, below)) begun.below k)))
        (domain-all start there z begin o n d begun (omega (arith, le, grown)) (each-back (UsesStand tables) before dom uses)) body)))

    -- the restriction of a variable, but for the variable itself
    pub domain-all : (start : ℕ) (s : Scope) (x : ℕ) (b : Before) (o : Order) (n : Bytes) (d : Domain) → At r R low start s x → x < b.next →
        Each (UsesStand tables) (inside_domain (without_exports (bind n (meaning.Variable x o) s)) b d) →
        If (λ restriction. Told r tables.exports low (after_domain b d).next s.names
        (λ y. Any (LeadsTo R y) (readings_of_domain s o d) ⊎ Reaches R (inside_domain (without_exports (bind n (meaning.Variable x o) s)) b d) y)
        (λ v. (IsVariable x o v → ⊥) × FreeInRestriction r restriction v) []) (typed_domain (bind n (meaning.Variable x o) s) b o x d)
    domain-all start s x b o n unrestricted here less uses =
        let begun = here.begun in
        subst (λ found. Told r tables.exports low b.next s.names (λ y. Any (LeadsTo R y) (readings_of_default (default_of s o)) ⊎ ⊥)
        (λ v. (IsVariable x o v → ⊥) × FreeInRestriction r (default_restriction found x) v) []) (default-under s (bind n (meaning.Variable x o) s) o refl refl)
        (default-told tables r R low start b.next s.names o x (default_of s o) (omega (arith, begun, less)) (λ v seen. in-scope-below x s.names v here.below seen) (default-known r R low start s o here.knows))
    domain-all start s x b o n (restricted e) here less uses =
        let inner = bind n (meaning.Variable x o) s in
        let outer = without_exports inner in
        let os = occurrences outer b formula_wanted e in
        let more = grows b e in
        if-one (FormTold tables r R low (after b e).next inner.names os)
        (λ restriction. Told r tables.exports low (after b e).next s.names (λ y. ⊥ ⊎ Reaches R os y) (λ v. (IsVariable x o v → ⊥) × FreeInRestriction r restriction v) [])
        (λ f. tree.restricted f) (formula_in (typed inner b e))
        (λ f h. told-same r tables.exports R low (after b e).next (after b e).next s.names (Reaches R os) (λ y. ⊥ ⊎ Reaches R os y) (λ v. (IsVariable x o v → ⊥) × FreeUnder r f v)
        (λ v. (IsVariable x o v → ⊥) × FreeUnder r f v) [] (omega arith) (λ y. (λ any. inr any, λ any. ⊎_elim (λ none. absurd none) (λ inside. inside) any)) (λ v. (λ free. free, λ free. free))
        (told-drop r tables.exports R low
        (hide-one r tables.exports low (after b e).next s.names x o n (Reaches R os) (λ v. FreeUnder r f v) (exports_in f) here.from (omega (arith, less, more)) here.below h)))
        (formula-told r tables.exports R low (after b e).next inner.names (Reaches R os) (typed inner b e)
        (subst (λ a. If (ArgumentTold tables r R low (after b e).next inner.names os) a) (typed-same outer inner b e refl)
        (told start outer b formula_wanted e (at-later r R low start outer (x + 1) b.next (omega (arith, less)) (at-without r R low start inner (x + 1) (at-bind r R low start s x o n here))) uses)))

    parts-all : (start : ℕ) (s : Scope) (b : Before) (o : Order) (ps : Parts) → At r R low start s b.next → Each (UsesStand tables) (inside_parts (without_exports s) b o ps) →
        If (SidesTold tables r R low (after_parts b ps).next s.names (inside_parts (without_exports s) b o ps) (orders_of_parts o ps)) (typed_parts s b o ps)
    parts-all start s b o no_parts here uses =
        (told-none r tables.exports R low b.next s.names (Reaches R []) (λ v. ⊥) (λ x none. none) (λ v none. none), refl)
    parts-all start s b o (and_part parts at n e) here uses =
        let outer = without_exports s in
        let begin = after_parts b parts in
        let os = inside_parts outer b o parts in
        let ps = occurrences outer begin (Exactly o) e in
        let end = (after begin e).next in
        if-two (SidesTold tables r R low begin.next s.names os (orders_of_parts o parts)) (OrderTold r tables.exports R low end s.names (Reaches R ps) o)
        (SidesTold tables r R low end s.names (os ++ ps) (orders_of_parts o parts ++ o ∷ [])) argument_behind
        (typed_parts s b o parts) (option_and_then (of_order o) (typed s begin e))
        (λ sides a h k. (
          told-behind end s.names (Reaches R (os ++ ps)) (λ v. FreeInArguments r sides v) (λ v. FreeInArgument r a v) (λ v. FreeInArguments r (argument_behind sides a) v) [] [] [] refl (arguments-free r sides a)
              (told-two r tables.exports R low begin.next end s.names os ps (λ v. FreeInArguments r sides v) (λ v. FreeInArgument r a v) [] [] (grows begin e) h.0 (told-drop r tables.exports R low k.0)),
          orders-last sides a ∙ (ap (λ qs. qs ++ order_of_argument a ∷ []) h.1 ∙ ap (λ p. orders_of_parts o parts ++ p ∷ []) k.1),
        ))
        (parts-all start s b o parts here (each-front (UsesStand tables) os ps uses))
        (order-told r tables.exports R low end s.names (Reaches R ps) o (typed s begin e)
        (subst (λ a. If (ArgumentTold tables r R low end s.names ps) a) (typed-same outer s begin e refl)
        (told start outer begin (Exactly o) e (at-later r R low start outer b.next begin.next (grows-parts b parts) (at-without r R low start s b.next here)) (each-back (UsesStand tables) os ps uses))))
