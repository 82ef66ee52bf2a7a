-- One more predicate keeps its values in the spread, and so do all predicates of a source.
use Rattle.std.proofs.Common.{◌≡◌, ℕ, ◌+◌, ◌==◌, Bool, true, false, cond, MatchBool, ◌↔◌, ◌⊎◌, inl, inr, ⊎_elim, List, [], ◌∷◌, ◌++◌, map, refl, sym, ap, subst, arith}
use Rattle.ms_logic.specs.declared.mode.Order.{Order}
use Rattle.ms_logic.specs.declared.assignment.Value.{Value}
use Rattle.ms_logic.specs.Assignment.{Env, Variable, assign_all, value_at, IsValueOf}
use Rattle.ms_logic_core.specs.CoreForm.{CoreForm, CoreYes, CoreNo}
use Rattle.ms_logic.specs.FreeVariables.{Reads, IsBound, IsReadFor, FreeUnder, FreeInRestrictions, names_of, parameter_orders_of, reads_of_imports, reads_with_predicate, reads_with_predicates}
use Rattle.ms_logic_core.specs.Spread.{Names, Callees, named, default_names, conjunction_of, restrictions_of, spread_under, callees_of_imports, callees_with, callees_with_all, callees_of}
use Rattle.ms_logic.specs.Tree.{Declaration, Predicate}
use Rattle.ms_logic.specs.Truth.{Meanings, YesUnder, NoUnder, AllMet, entered, values_at, Import, Given, meanings_of_imports, with_predicate, with_predicates, meanings_of}
use Rattle.ms_logic.proofs.Agreement as variable
use Rattle.ms_logic_core.proofs.Saying.{Reading, reading-weaker, extends-itself}
use Rattle.ms_logic_spread.proofs.Equivalences.{iff_then}
use Rattle.ms_logic_spread.proofs.Formulas.{keeps, restrictions_kept}
use Rattle.ms_logic_spread.proofs.Keeping.{AreKept, restrictions_before}
use Rattle.ms_logic_spread.proofs.Places.{Places, places_none, places_one, reading_placed}

-- the names inside a default restriction at x: each parameter is named as x is among the outer names
default_place : List Declaration → ℕ → Names → Names → Names
default_place [] x outer names = names
default_place (declared ∷ more) x outer names =
    named declared.variable.order declared.variable.name (outer declared.variable.order x) (default_place more x outer names)

default_place-own : (ds : List Declaration) (x : ℕ) (names : Names) → default_place ds x names names ≡ default_names ds x names
unfolding default_place
default_place-own [] x names = refl
default_place-own (declared ∷ more) x names =
    ap (named declared.variable.order declared.variable.name (names declared.variable.order x)) (default_place-own more x names)

default_places : (o : Order) (ds : List Declaration) (x : ℕ) (names : Names) (free : ℕ) (e c : Env) → Reading (IsReadFor ds x) names free e c →
    Places o (map (λ d. d.variable.name) ds) (map (λ d. d.variable.order) ds) (map (λ d. value_at d.variable.order x e) ds) (default_place ds x names) free c
unfolding default_place
default_places o [] x names free e c reading = places_none o [] free c
default_places o (declared ∷ more) x names free e c reading =
    let at_x = variable.named x declared.variable.order in
    places_one o declared.variable.order (names declared.variable.order x) (value_at declared.variable.order x e) (declared.variable.name ∷ map (λ d. d.variable.name) more)
    (map (λ d. d.variable.order) more) (map (λ d. value_at d.variable.order x e) more) (default_place more x names) free c
    (reading.below at_x (inl (refl, refl))) (reading.values at_x (inl (refl, refl)))
    (subst (λ u. IsValueOf declared.variable.order u (value_at declared.variable.order x e)) (sym reading.universe) (reading.valid at_x (inl (refl, refl))))
    (default_places o more x names free e c (reading-weaker _ _ names free e c (λ w there. inr there) reading))

-- what the body of a default restriction reads, at x
reading_default : (Inside : Variable → Type 0) (q : Predicate) (x : ℕ) (names : Names) (free : ℕ) (e c : Env) →
    Reading (λ w. IsReadFor q.parameters x w ⊎ ((IsBound (names_of q) (parameter_orders_of q) w → ⊥) × Inside w)) names free e c →
    Reading Inside (default_names q.parameters x names) free (entered q (values_at q x e) e) c
reading_default Inside q x names free e c reading =
    let P : Names → Type 0 = λ inner. Reading Inside inner free (entered q (values_at q x e) e) c in
    subst P (default_place-own q.parameters x names)
    (reading_placed _ Inside (names_of q) (parameter_orders_of q) (values_at q x e) (default_place q.parameters x names) names free free e c c (omega arith) (extends-itself free c)
    (λ o. default_places o q.parameters x names free e c (reading-weaker _ _ names free e c (λ w there. inl there) reading))
    (λ w there not_bound. inr (not_bound, there)) reading)

-- what a predicate's restrictions and its body read
abbrev pub PredicateReads : Reads → Predicate → Variable → Type 0
PredicateReads r q w = FreeInRestrictions r q.parameters w ⊎ FreeUnder r q.body w

abbrev pub body_reads_with : (ℕ → Variable → Type 0) → Reads → ℕ → Predicate → ℕ → Variable → Type 0
body_reads_with body_reads r number q p w = MatchBool (p == number) (PredicateReads r q w) (body_reads p w)

module _ (m : Meanings) (k : Callees) (r : Reads) (imports : List Import) (body_reads : ℕ → Variable → Type 0) (kept : AreKept m k r imports body_reads) (q : Predicate) where
  abbrev Body : Names → ℕ → CoreForm
  Body names free = conjunction_of (restrictions_of k q.parameters names free ++ spread_under k q.body names free ∷ [])

  -- a call, where its number is that of the predicate or not
  read_by_call : (b : Bool) (p : ℕ) (orders : List Order) (w : Variable) → MatchBool b (PredicateReads r q w) (body_reads p w) → (IsBound (cond b (names_of q) (k.parameters p)) orders w → ⊥) →
      MatchBool b ((IsBound (names_of q) orders w → ⊥) × PredicateReads r q w) (r.called p orders w)
  read_by_call true p orders w read not_bound = (not_bound, read)
  read_by_call false p orders w read not_bound = kept.call_reads p orders w read not_bound

  body_kept : (vs : List Value) (names : Names) (free : ℕ) (e c : Env) → Reading (PredicateReads r q) names free (entered q vs e) c →
      ((AllMet m q.parameters (entered q vs e) × YesUnder m q.body (entered q vs e)) ↔ CoreYes imports (Body names free) c)
      × ((AllMet m q.parameters (entered q vs e) × NoUnder m q.body (entered q vs e)) ↔ CoreNo imports (Body names free) c)
  body_kept vs names free e c reading =
      let body = keeps m k r imports body_reads kept q.body names free (entered q vs e) c (reading-weaker _ _ names free (entered q vs e) c (λ w there. inr there) reading) in
      let restrictions = restrictions_kept m k r imports body_reads kept q.parameters names free (entered q vs e) c (reading-weaker _ _ names free (entered q vs e) c (λ w there. inl there) reading) in
      let both = restrictions_before m k imports names free (entered q vs e) c (spread_under k q.body names free ∷ []) q.parameters restrictions in (
        iff_then (λ h. (h.0, (body.0.0 h.1, tt)), λ h. (h.0, body.0.1 h.1.0)) both.0,
        iff_then (λ h. let no = body.1.0 h.1 in (h.0, (inr no, tt), inl no), λ h. (h.0, body.1.1 (⊎_elim (λ no. no) (λ none. absurd none) h.2))) both.1,
      )

  call_kept : (b : Bool) (p : ℕ) (vs : List Value) (names : Names) (free : ℕ) (e c : Env) →
      Reading (λ w. MatchBool b (PredicateReads r q w) (body_reads p w)) names free (assign_all (cond b (names_of q) (k.parameters p)) vs e) c →
      (MatchBool b (AllMet m q.parameters (entered q vs e) × YesUnder m q.body (entered q vs e)) (m.call_yes p vs e) ↔ CoreYes imports ((cond b Body (k.body p)) names free) c)
      × (MatchBool b (AllMet m q.parameters (entered q vs e) × NoUnder m q.body (entered q vs e)) (m.call_no p vs e) ↔ CoreNo imports ((cond b Body (k.body p)) names free) c)
  call_kept true p vs names free e c reading = body_kept vs names free e c reading
  call_kept false p vs names free e c reading = kept.calls p vs names free e c reading

  default_kept : (b : Bool) (p x : ℕ) (names : Names) (free : ℕ) (e c : Env) →
      Reading (λ w. MatchBool b (IsReadFor q.parameters x w ⊎ ((IsBound (names_of q) (parameter_orders_of q) w → ⊥) × FreeUnder r q.body w)) (r.default p x w)) names free e c →
      (MatchBool b (YesUnder m q.body (entered q (values_at q x e) e)) (m.default_yes p x e) ↔ CoreYes imports ((cond b (λ x names free. spread_under k q.body (default_names q.parameters x names) free) (k.default p)) x names free) c)
      × (MatchBool b (NoUnder m q.body (entered q (values_at q x e) e)) (m.default_no p x e) ↔ CoreNo imports ((cond b (λ x names free. spread_under k q.body (default_names q.parameters x names) free) (k.default p)) x names free) c)
  default_kept true p x names free e c reading =
      keeps m k r imports body_reads kept q.body (default_names q.parameters x names) free (entered q (values_at q x e) e) c (reading_default (FreeUnder r q.body) q x names free e c reading)
  default_kept false p x names free e c reading = kept.defaults p x names free e c reading

  kept_with_predicate : (number : ℕ) → AreKept (with_predicate m number q) (callees_with k number q) (reads_with_predicate r number q) imports (body_reads_with body_reads r number q)
  kept_with_predicate number = record {
    variables = kept.variables;
    answers = kept.answers;
    import_reads = kept.import_reads;
    call_reads = λ p orders w read not_bound. read_by_call (p == number) p orders w read not_bound;
    calls = λ p vs names free e c reading. call_kept (p == number) p vs names free e c reading;
    defaults = λ p x names free e c reading. default_kept (p == number) p x names free e c reading;
  }

-- the imports alone: no predicate is called
abbrev nothing_read : ℕ → Variable → Type 0
nothing_read p w = ⊥

kept_imports : (imports : List Import) → AreKept (meanings_of_imports imports) (callees_of_imports imports) (reads_of_imports imports) imports nothing_read
kept_imports imports = record {
  variables = λ i. refl;
  answers = λ i e. refl;
  import_reads = λ i w read. read;
  call_reads = λ p orders w read not_bound. read;
  calls = λ p vs names free e c reading. ((λ h. h, λ h. h), (λ h. h, λ h. h));
  defaults = λ p x names free e c reading. ((λ h. h, λ h. h), (λ h. h, λ h. h));
}

-- what the bodies of predicates read, whose numbers go on from a count
abbrev pub body_reads_with_all : (ℕ → Variable → Type 0) → Reads → ℕ → List Predicate → ℕ → Variable → Type 0
body_reads_with_all body_reads r count [] = body_reads
body_reads_with_all body_reads r count (first ∷ later) =
    body_reads_with_all (body_reads_with body_reads r count first) (reads_with_predicate r count first) (count + 1) later

kept_with_predicates : (m : Meanings) (k : Callees) (r : Reads) (imports : List Import) (body_reads : ℕ → Variable → Type 0) (count : ℕ) (predicates : List Predicate) → AreKept m k r imports body_reads →
    AreKept (with_predicates m count predicates) (callees_with_all k count predicates) (reads_with_predicates r count predicates) imports (body_reads_with_all body_reads r count predicates)
kept_with_predicates m k r imports body_reads count [] kept = kept
kept_with_predicates m k r imports body_reads count (first ∷ later) kept =
    kept_with_predicates (with_predicate m count first) (callees_with k count first) (reads_with_predicate r count first) imports (body_reads_with body_reads r count first) (count + 1) later
    (kept_with_predicate m k r imports body_reads kept first count)

-- what the formulas of a source read through its predicates and imports
abbrev pub reads_of : Given → Reads
reads_of given = reads_with_predicates (reads_of_imports given.imports) 0 given.predicates

abbrev pub body_reads_of : Given → ℕ → Variable → Type 0
body_reads_of given = body_reads_with_all nothing_read (reads_of_imports given.imports) 0 given.predicates

pub kept_given : (given : Given) → AreKept (meanings_of given) (callees_of given) (reads_of given) given.imports (body_reads_of given)
kept_given given =
    kept_with_predicates (meanings_of_imports given.imports) (callees_of_imports given.imports) (reads_of_imports given.imports) given.imports nothing_read 0 given.predicates (kept_imports given.imports)
