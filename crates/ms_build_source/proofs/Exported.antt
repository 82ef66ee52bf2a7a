-- A source whose numbers are in order, and whose exports list their free variables, lists its variables.
use Rattle.std.proofs.Common.{◌≡◌, ℕ, ◌+◌, ◌<◌, ◌==◌, inl, inr, ⊎_elim, Bool, true, false, if◌then◌else◌, List, [], ◌∷◌, ◌++◌, flat_map, length, map, slice_get, IsSomeAnd, Option, Some, None, refl, sym, ap, subst, ◌∙◌, arith}
use Rattle.std.proofs.lemmas.List.{map-append}
use Rattle.std.proofs.lemmas.Bool.Decides.{nat_tests}
use Rattle.ms_names_checked.specs.Exports.{ExportListsFree, HasExportsInPlace, HaveExportsInPlace, ListsFree}
use Rattle.ms_logic.specs.declared.checked.ExportUse.{ExportUse}
use Rattle.ms_logic.specs.declared.checked.Global.{Global}
use Rattle.ms_logic.specs.declared.checked.Placed.{Placed}
use Rattle.ms_logic.specs.declared.mode.Order.{Order}
use Rattle.ms_logic.specs.Assignment.{Variable}
use Rattle.ms_logic.specs.FreeVariables.{IsListed}
use Rattle.ms_logic_core.specs.Roots.{AreFreeVariables, Export}
use Rattle.ms_logic_core.specs.Roots as roots
use Rattle.ms_logic.specs.Tree.{Form, truth, falsity, truth_variable, negation, conjunction, disjunction, implication, equivalence, comparison, set_comparison, membership, emptiness, quantified, where_let, call, restrict, imported, exported, default_at, Forms, no_forms, more_forms}
use Rattle.ms_logic.specs.Truth.{Given}
use Rattle.ms_logic.specs.View.{formula_of, forms, globals_from, problem_of}
use Rattle.ms_lower.specs.Lowered.{ExportsFit, ExportsFitEach, reads_of}
use Rattle.ms_lower.specs.NumberedRoots.{globals_over, order_seen, variables_of_export, with_orders}
use Rattle.ms_names_rules.specs.Numbers as numbers
use Rattle.ms_names_rules.specs.Numbers.{AreNumbered, CountUp, IsNew, IsNumbered, Tables, globals_seen, tables_of}
use Rattle.ms_logic.specs.Lists.{Each}
use Rattle.ms_names_rules.proofs.Fitting.{each-back, each-front}
use Rattle.ms_logic_spread.proofs.Questions.{asked_numbered, whole_asked}
use Rattle.ms_logic_spread.proofs.Seen.{IsWithin, ReadSeen, free_seen}
use Rattle.ms_logic_spread.proofs.SeenPredicates.{all_seen}
use Rattle.ms_build_source.specs.inner.HandoverLaws.{SourcesListVariables}
use Rattle.ms_build_source.proofs.Questions.{reads_globals}

-- exports that stand in place are found

both_empty : {X : Type 0} (xs ys : List X) → xs ≡ [] → xs ++ ys ≡ ys
both_empty xs ys none = ap (λ list. list ++ ys) none

mutual
  in_place : (f : Form) → HasExportsInPlace f → map (λ (e : Export). e.number) (roots.exports_in f) ≡ numbers.exports_in f
  in_place truth h = refl
  in_place falsity h = refl
  in_place (truth_variable x) h = refl
  in_place (negation f) h = in_place f h
  in_place (conjunction fs) h = all_in_place fs h
  in_place (disjunction fs) h = all_in_place fs h
  in_place (implication f g) h =
      map-append (λ (e : Export). e.number) (roots.exports_in f) (roots.exports_in g)
      ∙ (ap (λ list. list ++ map (λ (e : Export). e.number) (roots.exports_in g)) (in_place f h.0) ∙ ap (λ list. numbers.exports_in f ++ list) (in_place g h.1))
  in_place (equivalence f g) h =
      map-append (λ (e : Export). e.number) (roots.exports_in f) (roots.exports_in g)
      ∙ (ap (λ list. list ++ map (λ (e : Export). e.number) (roots.exports_in g)) (in_place f h.0) ∙ ap (λ list. numbers.exports_in f ++ list) (in_place g h.1))
  in_place (comparison r t u) h = refl
  in_place (set_comparison r s t) h = refl
  in_place (membership positive t s) h = refl
  in_place (emptiness s) h = refl
  in_place (quantified q o x d f) h = in_place f h.1 ∙ sym (both_empty (numbers.exports_in_restriction d) (numbers.exports_in f) h.0)
  in_place (where_let xs sides f) h = sym (both_empty (numbers.exports_in_arguments sides) (numbers.exports_in f) h.0 ∙ h.1)
  in_place (call p values) h = sym h
  in_place (restrict f) h = in_place f h
  in_place (imported i) h = refl
  in_place (exported i f) h = ap (λ list. i ∷ list) (in_place f h)
  in_place (default_at p x) h = refl

  all_in_place : (fs : Forms) → HaveExportsInPlace fs → map (λ (e : Export). e.number) (roots.exports_among fs) ≡ numbers.exports_in_all fs
  all_in_place no_forms h = refl
  all_in_place (more_forms f fs) h =
      map-append (λ (e : Export). e.number) (roots.exports_in f) (roots.exports_among fs)
      ∙ (ap (λ list. list ++ map (λ (e : Export). e.number) (roots.exports_among fs)) (in_place f h.0) ∙ ap (λ list. numbers.exports_in f ++ list) (all_in_place fs h.1))

placed_in_place : (placed : List Placed) → Each (λ p. HasExportsInPlace (formula_of p.formula)) placed → HaveExportsInPlace (forms (map (λ p. formula_of p.formula) placed))
placed_in_place [] h = tt
placed_in_place (p ∷ placed) h = (h.0, placed_in_place placed h.1)

all_placed : (placed : List Placed) → numbers.exports_in_all (forms (map (λ p. formula_of p.formula) placed)) ≡ flat_map (λ p. numbers.exports_in (formula_of p.formula)) placed
all_placed [] = refl
all_placed (p ∷ placed) = ap (λ list. numbers.exports_in (formula_of p.formula) ++ list) (all_placed placed)

-- two lists of variables that are seen agree on the orders of the first

abbrev Agree : List Variable → List Variable → Type 0
Agree seen inner = (w : Variable) → IsListed seen w → order_seen inner w.name ≡ w.order

choose_then : {X : Type 0} (b : Bool) (x y : X) → b ≡ true → (if b then x else y) ≡ x
choose_then true x y h = refl
choose_then false x y h = absurd (cc)

choose_else : {X : Type 0} (b : Bool) (x y : X) → b ≡ false → (if b then x else y) ≡ y
choose_else true x y h = absurd (cc)
choose_else false x y h = refl

same_test : (a b : ℕ) → a ≡ b → (a == b) ≡ true
same_test a b h = grind (arith, nat_tests)

other_test : (a b : ℕ) → a < b → (a == b) ≡ false
other_test a b h = grind (arith, nat_tests)

pub listed_below : (seen : List Variable) (x : ℕ) (w : Variable) → IsNew seen x → IsListed seen w → w.name < x
listed_below [] x w new h = absurd h
listed_below (v ∷ seen) x w new h =
    ⊎_elim (λ is. let same = is.0 in let less = new.0 in omega (arith, same, less)) (λ later. listed_below seen x w new.1 later) h

agree_bind : (seen inner : List Variable) (x : ℕ) (o : Order) → IsNew seen x → Agree seen inner →
    Agree (record { name = x; order = o } ∷ seen) (record { name = x; order = o } ∷ inner)
agree_bind seen inner x o new agree = λ w listed.
    ⊎_elim (λ is. choose_then (w.name == x) o (order_seen inner w.name) (same_test w.name x is.0) ∙ sym is.1)
    (λ later. choose_else (w.name == x) o (order_seen inner w.name) (other_test w.name x (listed_below seen x w new later)) ∙ agree w later) listed

-- globals

below_globals : (n x : ℕ) (outer : List Variable) (gs : List Global) → x < n → order_seen (globals_over n outer gs) x ≡ order_seen outer x
below_globals n x outer [] less = refl
below_globals n x outer (g ∷ gs) less =
    below_globals (n + 1) x (record { name = n; order = g.order } ∷ outer) gs (omega (arith, less))
    ∙ choose_else (x == n) g.order (order_seen outer x) (other_test x n less)

globals_agree : (n : ℕ) (outer : List Variable) (gs : List Global) → Agree (map (λ d. d.variable) (globals_from n gs)) (globals_over n outer gs)
globals_agree n outer [] = λ w listed. absurd listed
globals_agree n outer (g ∷ gs) = λ w listed.
    let more : List Variable = record { name = n; order = g.order } ∷ outer in
    ⊎_elim
    (λ is.
    let same = is.0 in
    below_globals (n + 1) w.name more gs (omega (arith, same)) ∙ (choose_then (w.name == n) g.order (order_seen outer w.name) (same_test w.name n is.0) ∙ sym is.1))
    (λ later. globals_agree (n + 1) more gs w later) listed

-- variables with the orders that they have where they are seen

ordered : (inner vs : List Variable) → ((w : Variable) → IsListed vs w → order_seen inner w.name ≡ w.order) → with_orders inner (map (λ (v : Variable). v.name) vs) ≡ vs
ordered inner [] orders = refl
ordered inner (v ∷ vs) orders =
    let rest : List Variable = with_orders inner (map (λ (u : Variable). u.name) vs) in
    let first : Order = order_seen inner v.name in
    ap (λ (o : Order). let here : Variable = record { name = v.name; order = o } in here ∷ rest) (orders v (inl (refl, refl)))
    ∙ ap (λ (list : List Variable). v ∷ list) (ordered inner vs (λ w listed. orders w (inr listed)))

module _ (tables : Tables) (given : Given) (bound : ℕ) (globals : List Variable) (reads : ReadSeen tables (reads_of given) bound globals) where
  fits_here : (i : ℕ) (f : Form) (seen inner : List Variable) → IsWithin globals seen → IsNumbered tables bound seen f → Agree seen inner →
      ExportListsFree given tables.exports (record { number = i; formula = f }) → AreFreeVariables given f (with_orders inner (variables_of_export (slice_get tables.exports i)))
  fits_here i f seen inner within numbered agree lists = found (slice_get tables.exports i) lists
    where
      found : (used : Option ExportUse) → IsSomeAnd used (ListsFree given f) → AreFreeVariables given f (with_orders inner (variables_of_export used))
      found None h = absurd h
      found (Some used) h =
          let vs = h.0 in
          let orders = ordered inner vs (λ w listed. agree w (free_seen tables (reads_of given) bound globals reads f seen within numbered w ((h.2.free w).0 listed))) in
          subst (λ list. AreFreeVariables given f list) (sym (ap (with_orders inner) h.1 ∙ orders)) h.2

  mutual
    fits_in : (f : Form) (seen inner : List Variable) → IsWithin globals seen → IsNumbered tables bound seen f → Agree seen inner →
        Each (ExportListsFree given tables.exports) (roots.exports_in f) → ExportsFit given tables.exports inner f
    fits_in truth seen inner within numbered agree lists = tt
    fits_in falsity seen inner within numbered agree lists = tt
    fits_in (truth_variable x) seen inner within numbered agree lists = tt
    fits_in (negation f) seen inner within numbered agree lists = fits_in f seen inner within numbered agree lists
    fits_in (conjunction fs) seen inner within numbered agree lists = fits_among fs seen inner within numbered agree lists
    fits_in (disjunction fs) seen inner within numbered agree lists = fits_among fs seen inner within numbered agree lists
    fits_in (implication f g) seen inner within numbered agree lists = (
      fits_in f seen inner within numbered.0 agree (each-front (ExportListsFree given tables.exports) (roots.exports_in f) (roots.exports_in g) lists),
      fits_in g seen inner within numbered.1 agree (each-back (ExportListsFree given tables.exports) (roots.exports_in f) (roots.exports_in g) lists),
    )
    fits_in (equivalence f g) seen inner within numbered agree lists = (
      fits_in f seen inner within numbered.0 agree (each-front (ExportListsFree given tables.exports) (roots.exports_in f) (roots.exports_in g) lists),
      fits_in g seen inner within numbered.1 agree (each-back (ExportListsFree given tables.exports) (roots.exports_in f) (roots.exports_in g) lists),
    )
    fits_in (comparison r t u) seen inner within numbered agree lists = tt
    fits_in (set_comparison r s t) seen inner within numbered agree lists = tt
    fits_in (membership positive t s) seen inner within numbered agree lists = tt
    fits_in (emptiness s) seen inner within numbered agree lists = tt
    fits_in (quantified q o x d f) seen inner within numbered agree lists =
        fits_in f (record { name = x; order = o } ∷ seen) (record { name = x; order = o } ∷ inner) (λ w listed. inr (within w listed)) numbered.2
        (agree_bind seen inner x o numbered.0 agree) lists
    fits_in (where_let xs sides f) seen inner within numbered agree lists = tt
    fits_in (call p values) seen inner within numbered agree lists = tt
    fits_in (restrict f) seen inner within numbered agree lists = fits_in f seen inner within numbered agree lists
    fits_in (imported i) seen inner within numbered agree lists = tt
    fits_in (exported i f) seen inner within numbered agree lists =
        (fits_here i f seen inner within numbered.1 agree lists.0, fits_in f seen inner within numbered.1 agree lists.1)
    fits_in (default_at p x) seen inner within numbered agree lists = tt

    fits_among : (fs : Forms) (seen inner : List Variable) → IsWithin globals seen → AreNumbered tables bound seen fs → Agree seen inner →
        Each (ExportListsFree given tables.exports) (roots.exports_among fs) → ExportsFitEach given tables.exports inner fs
    fits_among no_forms seen inner within numbered agree lists = tt
    fits_among (more_forms f fs) seen inner within numbered agree lists = (
      fits_in f seen inner within numbered.0 agree (each-front (ExportListsFree given tables.exports) (roots.exports_in f) (roots.exports_among fs) lists),
      fits_among fs seen inner within numbered.1 agree (each-back (ExportListsFree given tables.exports) (roots.exports_in f) (roots.exports_among fs) lists),
    )

pub sources_list_variables : SourcesListVariables
sources_list_variables checked answers long well lists =
    let tables = tables_of checked in
    let problem = problem_of checked answers in
    let bound = length tables.predicates in
    let seen = globals_seen checked in
    let reads = all_seen tables seen answers well.predicates in
    let within : IsWithin seen seen = λ w listed. listed in
    let numbered = asked_numbered checked well checked.formulas (whole_asked checked) in
    let reads_them = reads_globals checked answers well checked.formulas (whole_asked checked) in
    let places = all_in_place problem.formulas (placed_in_place checked.formulas lists.in_place) ∙ all_placed checked.formulas in
    record {
      restrictions = reads_them.restrictions;
      formulas = reads_them.formulas;
      numbers = subst (λ list. CountUp 0 list (length checked.exports)) (sym places) well.exports;
      fit = fits_among tables problem.given bound seen reads problem.formulas seen (globals_over 0 [] checked.globals) within numbered (globals_agree 0 [] checked.globals)
          (lists.variables answers long);
    }
