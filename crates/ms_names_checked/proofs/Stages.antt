-- What is known before each declaration of a source.
use Rattle.std.proofs.Common.{Bool, option_map, ◌≡◌, ℕ, ◌+◌, ◌≤◌, ◌↔◌, List, [], ◌∷◌, ◌++◌, length, map, Option, Some, None, refl, sym, ap, subst, ◌∙◌, arith}
use Rattle.std.specs.Prelude.{flat_map, slice_get}
use Rattle.ms_list.specs.declared.at.At.{At as Place}
use Rattle.ms_logic.specs.declared.checked.ImportUse.{ImportUse}
use Rattle.ms_logic.specs.declared.mode.Order.{Order}
use Rattle.ms_logic.specs.declared.mode.Order.TheVariants.{Zero, One, Two}
use Rattle.ms_logic.specs.declared.source.PlacedInt.{PlacedInt}
use Rattle.ms_logic.specs.Assignment.{Variable}
use Rattle.ms_logic.specs.FreeVariables.{Reads, parameter_orders_of, reads_with_predicate, reads_with_predicates}
use Rattle.ms_logic_core.specs.Roots.{exports_in}
use Rattle.ms_logic.specs.Tree as tree
use Rattle.ms_logic.specs.Tree.{Predicate}
use Rattle.ms_names_rules.specs.Scope.{Bytes, Scope, count_of_bounds, under_bounds, with_default}
use Rattle.ms_parse_grammar.specs.Tree.{Expression, Variables, no_variables, and_variable, Declaration, variables, constant, predicate, included, default_restriction, formula, goal, Declared}
use Rattle.ms_names_rules.specs.Declarations.{Known, after_declaration, before_after, count_of_globals, occurrences_in, orders_of_bounds, with_readings}
use Rattle.ms_names_rules.specs.Before.{Before, with_names, after, after_bounds}
use Rattle.ms_names_rules.specs.inner.Binder.{predicate_with, restricted_variable}
use Rattle.ms_names_rules.specs.Constant.{sum_from, value_of_sum}
use Rattle.ms_names_rules.specs.inner.Free.{Readings}
use Rattle.ms_names_rules.specs.Numbers.{Tables, IsOnePlain}
use Rattle.ms_logic.specs.Lists.{Each}
use Rattle.ms_names_rules.specs.Order.{formula_wanted}
use Rattle.ms_names_rules.specs.Reads.{readings_at}
use Rattle.ms_names_rules.specs.Typed.{formula_in, typed}
use Rattle.ms_names_rules.specs.TypedSource.{TypedFormula, collected, formulas_of, parameters_of_bounds, predicates_of, restriction_of_parameter, typed_default, typed_predicate}
use Rattle.ms_names_rules.specs.Uses.{export_at, import_at}
use Rattle.ms_names_rules.proofs.Fitting.{If, IsBelow, below-more, each-append, each-weaker, if-any, if-one}
use Rattle.ms_names_rules.proofs.Growth.{grows, grows-bounds}
use Rattle.ms_names_rules.proofs.NumberedDeclarations.{counts-declaration}
use Rattle.ms_names_rules.proofs.Numbering.{Stand, UsesStand, if-two}
use Rattle.ms_names_rules.proofs.Standing.{counted, stand-back, stand-front, uses-stand}
use Rattle.ms_names_checked.proofs.FreeVariables.{told}
use Rattle.ms_names_checked.proofs.Expressions.{FormTold}
use Rattle.ms_names_checked.proofs.Leading.{Reaches}
use Rattle.ms_names_checked.proofs.Predicates.{AgreeBelow, PredicateTold, agree-all, default-told, next-default, next-predicate, predicate-told}
use Rattle.ms_names_checked.proofs.Scopes.{default-names, Knows, Names}
use Rattle.ms_names_checked.proofs.Told.{ExportLists, IsPaired, formula-told}
use Rattle.ms_names_checked.proofs.Knowing.{agree-same, knows-constant, knows-default, knows-globals, knows-later, knows-named, knows-next}
use Rattle.std.proofs.lemmas.List.{map-append}
use Rattle.ms_names_checked.proofs.Hiding.{At}
use Rattle.ms_names_rules.specs.Occurrence.{occurrences}

default-readings : (s : Scope) (o : Order) (p : ℕ) → (with_default o p s).readings ≡ s.readings
default-readings s Zero p = refl
default-readings s One p = refl
default-readings s Two p = refl

bounds-readings : (s : Scope) (x : ℕ) (vs : Variables) → (under_bounds s x vs).readings ≡ s.readings
bounds-readings s x no_variables = refl
bounds-readings s x (and_variable vs at o n d) = bounds-readings s x vs

-- the orders of parameters
parameters-orders : (s : Scope) (x : ℕ) (b : Before) (vs : Variables) →
    If (λ (ps : List tree.Declaration). map (λ d. d.variable.order) ps ≡ orders_of_bounds vs) (parameters_of_bounds s x b vs)
parameters-orders s x b no_variables = refl
parameters-orders s x b (and_variable vs at o n d) =
    let r = restriction_of_parameter (under_bounds s x (and_variable vs at o n d)) (after_bounds b vs) d in
    let last : tree.Restriction → tree.Declaration = λ there. restricted_variable (x + count_of_bounds vs) o there in
    if-two (λ (ps : List tree.Declaration). map (λ d. d.variable.order) ps ≡ orders_of_bounds vs) (λ there. Unit {0})
    (λ (ps : List tree.Declaration). map (λ d. d.variable.order) ps ≡ orders_of_bounds vs ++ o ∷ [])
    (λ earlier there. earlier ++ last there ∷ []) (parameters_of_bounds s x b vs) r
    (λ earlier there h k. map-append (λ (d : tree.Declaration). d.variable.order) earlier (last there ∷ []) ∙ ap (λ os. os ++ o ∷ []) h)
    (parameters-orders s x b vs) (if-any r)

predicate-orders : (s : Scope) (b : Before) (vs : Variables) (e : Expression) → If (λ p. parameter_orders_of p ≡ orders_of_bounds vs) (typed_predicate s b vs e)
predicate-orders s b vs e =
    let next = with_names b (count_of_bounds vs) in
    let body = formula_in (typed (under_bounds s b.next vs) (after_bounds next vs) e) in
    if-two (λ (ps : List tree.Declaration). map (λ d. d.variable.order) ps ≡ orders_of_bounds vs) (λ f. Unit {0}) (λ p. parameter_orders_of p ≡ orders_of_bounds vs)
    predicate_with (parameters_of_bounds s b.next next vs) body (λ ps f h k. h) (parameters-orders s b.next next vs) (if-any body)

pub declaration-grows : (b : Before) (d : Declaration) → b.next ≤ (before_after b d).next
declaration-grows b (variables vs) = grows-bounds b vs
declaration-grows b (constant at n is) = omega arith
declaration-grows b (predicate is_pred at n vs e) =
    let next = with_names b (count_of_bounds vs) in
    let second = grows-bounds next vs in
    let third = grows (after_bounds next vs) e in
    omega (arith, second, third)
declaration-grows b (included text_at file) = omega arith
declaration-grows b (default_restriction o n e) = let second = grows (with_names b 1) e in omega (arith, second)
declaration-grows b (formula e) = grows b e
declaration-grows b (goal name_at title e) = grows b e

-- Before a declaration: what is known, where all globals have numbers below low and what is bound has greater ones.
pub record Stage (tables : Tables) (r : Reads) (low : ℕ) (k : Known) (ds : List Declared) : Type 0 where
  pub knows : Knows r k.scope.readings low k.before.next k.scope
  pub below : Each (IsBelow k.globals) k.scope.names
  pub enough : k.globals + count_of_globals ds ≡ low
  pub from : low ≤ k.before.next
  pub imports : (i : ℕ) (used : ImportUse) (w : Variable) → slice_get tables.imports i ≡ Some used → r.imported i w ↔ IsPaired used.pairs w

pub stage-at : (tables : Tables) (r : Reads) (low : ℕ) (k : Known) (ds : List Declared) → Stage tables r low k ds → At r k.scope.readings low k.before.next k.scope k.before.next
stage-at tables r low k ds h =
    let from = h.from in
    let enough = h.enough in
    record {
      knows = h.knows;
      from = h.from;
      begun = omega arith;
      below = each-weaker (IsBelow k.globals) (IsBelow k.before.next) k.scope.names (below-more k.globals k.before.next (omega (arith, from, enough))) h.below;
    }

-- the imports and exports of the next declarations stand in the tables
pub record Rest (tables : Tables) (k : Known) (item : ℕ) (ds : List Declared) : Type 0 where
  pub imports_are : Stand tables.imports k.before.imports (collected (λ k item d. flat_map import_at (occurrences_in k d.declaration)) k item ds)
  pub exports_are : Stand tables.exports k.before.exports (collected (λ k item d. flat_map export_at (occurrences_in k d.declaration)) k item ds)

pub rest-uses : (tables : Tables) (k : Known) (item : ℕ) (d : Declared) (ds : List Declared) → Rest tables k item (d ∷ ds) → Each (UsesStand tables) (occurrences_in k d.declaration)
rest-uses tables k item d ds rest =
    uses-stand tables k.before (before_after k.before d.declaration) (occurrences_in k d.declaration) (counts-declaration k d.declaration)
    (stand-front tables.imports k.before.imports (flat_map import_at (occurrences_in k d.declaration)) _ rest.imports_are)
    (stand-front tables.exports k.before.exports (flat_map export_at (occurrences_in k d.declaration)) _ rest.exports_are)

pub rest-next : (tables : Tables) (k : Known) (item : ℕ) (d : Declared) (ds : List Declared) → Rest tables k item (d ∷ ds) →
    Rest tables (after_declaration k d.declaration) (item + 1) ds
rest-next tables k item d ds rest =
    let next = after_declaration k d.declaration in
    let uses = counted k.before next.before (occurrences_in k d.declaration) (counts-declaration k d.declaration) in
    let I = collected (λ k item d. flat_map import_at (occurrences_in k d.declaration)) next (item + 1) ds in
    let X = collected (λ k item d. flat_map export_at (occurrences_in k d.declaration)) next (item + 1) ds in
    record {
      imports_are = subst (λ n. Stand tables.imports n I) (sym uses.0)
          (stand-back tables.imports k.before.imports (flat_map import_at (occurrences_in k d.declaration)) I rest.imports_are);
      exports_are = subst (λ n. Stand tables.exports n X) (sym uses.1)
          (stand-back tables.exports k.before.exports (flat_map export_at (occurrences_in k d.declaration)) X rest.exports_are);
    }

if-both : {A : Type 0} (P Q S : A → Type 0) (a : Option A) → ((x : A) → P x → Q x → S x) → If P a → If Q a → If S a
if-both P Q S None made h k = tt
if-both P Q S (Some a) made h k = made a h k

-- what holds if a predicate is there
there : (P : Predicate → Type 0) (found : Option Predicate) (p : Predicate) → Some p ≡ found → If P found → P p
there P found p is h = let Q : Option Predicate → Type 0 = λ o. If P o in subst Q (sym is) h

module _ (tables : Tables) (r : Reads) (low : ℕ) (k : Known) where
  -- after declarations that are no predicates
  stage-globals : (at : Place) (vs : Variables) (ds : List Declared) → Stage tables r low k (record { at = at; declaration = variables vs } ∷ ds) →
      Stage tables r low (after_declaration k (variables vs)) ds
  stage-globals at vs ds h =
      let enough = h.enough in
      let from = h.from in
      let more = grows-bounds k.before vs in
      let R = k.scope.readings in
      let low_high = knows-later r r R low k.before.next (after_bounds k.before vs).next k.scope more (agree-same (length R) r) h.knows in
      let both = knows-globals r R low (after_bounds k.before vs).next k.scope k.globals vs (omega (arith, enough)) h.below low_high in
      record {
        knows = subst (λ S. Knows r S low (after_bounds k.before vs).next (under_bounds k.scope k.globals vs)) (sym (bounds-readings k.scope k.globals vs)) both.0;
        below = both.1;
        enough = omega (arith, enough);
        from = omega (arith, from, more);
        imports = h.imports;
      }

  same-below : (names : Names) → Each (IsBelow k.globals) names → Each (IsBelow (k.globals + 0)) names
  same-below names below = each-weaker (IsBelow k.globals) (IsBelow (k.globals + 0)) names (below-more k.globals (k.globals + 0) (omega arith)) below

  -- after a predicate

  stage-predicate : (is_pred : Bool) (at name_at : Place) (n : Bytes) (vs : Variables) (e : Expression) (ds : List Declared) (p : Predicate) →
      Stage tables r low k (record { at = at; declaration = predicate is_pred name_at n vs e } ∷ ds) → Each (UsesStand tables) (occurrences_in k (predicate is_pred name_at n vs e)) →
      Some p ≡ typed_predicate k.scope k.before vs e →
      Stage tables (reads_with_predicate r (length k.scope.readings) p) low (after_declaration k (predicate is_pred name_at n vs e)) ds
  stage-predicate is_pred at name_at n vs e ds p h uses is =
      let enough = h.enough in
      let from = h.from in
      let R = k.scope.readings in
      let os = occurrences_in k (predicate is_pred name_at n vs e) in
      let more = declaration-grows k.before (predicate is_pred name_at n vs e) in
      let high = (before_after k.before (predicate is_pred name_at n vs e)).next in
      let t = reads_with_predicate r (length R) p in
      let here = there (PredicateTold tables r R low h.imports high k.scope.names os) (typed_predicate k.scope k.before vs e) p is
      (predicate-told tables r R low h.imports k.before.next k.scope k.before vs e (stage-at tables r low k (record { at = at; declaration = predicate is_pred name_at n vs e } ∷ ds) h) uses) in
      let orders = there (λ q. parameter_orders_of q ≡ orders_of_bounds vs) (typed_predicate k.scope k.before vs e) p is (predicate-orders k.scope k.before vs e) in
      record {
        knows = knows-named t (flat_map readings_at os ∷ R) low high (with_readings os k.scope) n (length R) (orders_of_bounds vs)
            (next-predicate tables r R low h.imports high k.scope.names os p (orders_of_bounds vs) orders here) (knows-next r R low k.before.next high k.scope os p more refl h.knows);
        below = (tt, same-below k.scope.names h.below);
        enough = omega (arith, enough);
        from = omega (arith, from, more);
        imports = h.imports;
      }

  stage-default : (at : Place) (o : Order) (n : Bytes) (e : Expression) (ds : List Declared) (p : Predicate) →
      Stage tables r low k (record { at = at; declaration = default_restriction o n e } ∷ ds) → Each (UsesStand tables) (occurrences_in k (default_restriction o n e)) →
      Some p ≡ typed_default k.scope k.before o n e →
      Stage tables (reads_with_predicate r (length k.scope.readings) p) low (after_declaration k (default_restriction o n e)) ds
  stage-default at o n e ds p h uses is =
      let enough = h.enough in
      let from = h.from in
      let R = k.scope.readings in
      let m = length R in
      let os = occurrences_in k (default_restriction o n e) in
      let more = declaration-grows k.before (default_restriction o n e) in
      let high = (before_after k.before (default_restriction o n e)).next in
      let t = reads_with_predicate r m p in
      let s = with_readings os k.scope in
      let here = there (λ q. PredicateTold tables r R low h.imports high k.scope.names os q × IsOnePlain o q.parameters) (typed_default k.scope k.before o n e) p is
      (default-told tables r R low h.imports k.before.next k.scope k.before o n e (stage-at tables r low k (record { at = at; declaration = default_restriction o n e } ∷ ds) h) uses) in
      record {
        knows = subst (λ S. Knows t S low high (with_default o m s)) (sym (default-readings s o m))
            (knows-default t (flat_map readings_at os ∷ R) low high s o m (next-default tables r R low h.imports high k.scope.names os p o here.1 here.0)
            (knows-next r R low k.before.next high k.scope os p more refl h.knows));
        below = subst (λ names. Each (IsBelow (k.globals + 0)) names) (sym (default-names s o m)) (same-below k.scope.names h.below);
        enough = omega (arith, enough);
        from = omega (arith, from, more);
        imports = h.imports;
      }

  stage-constant : (at name_at : Place) (n : Bytes) (is : List PlacedInt) (ds : List Declared) → Stage tables r low k (record { at = at; declaration = constant name_at n is } ∷ ds) →
      Stage tables r low (after_declaration k (constant name_at n is)) ds
  stage-constant at name_at n is ds h =
      let enough = h.enough in
      let from = h.from in
      record {
        knows = knows-constant r k.scope.readings low k.before.next k.scope n (value_of_sum (sum_from k.scope 0 is)) h.knows;
        below = (tt, same-below k.scope.names h.below);
        enough = omega (arith, enough);
        from = h.from;
        imports = h.imports;
      }

  stage-include : (at text_at : Place) (file : Bytes) (ds : List Declared) → Stage tables r low k (record { at = at; declaration = (included text_at file) } ∷ ds) → Stage tables r low (after_declaration k (included text_at file)) ds
  stage-include at text_at file ds h =
      let enough = h.enough in
      record { knows = h.knows; below = same-below k.scope.names h.below; enough = omega (arith, enough); from = h.from; imports = h.imports }

  stage-formula : (at : Place) (e : Expression) (ds : List Declared) → Stage tables r low k (record { at = at; declaration = formula e } ∷ ds) →
      Stage tables r low (after_declaration k (formula e)) ds
  stage-formula at e ds h =
      let enough = h.enough in
      let from = h.from in
      let more = grows k.before e in
      let R = k.scope.readings in
      record {
        knows = knows-later r r R low k.before.next (after k.before e).next k.scope more (agree-same (length R) r) h.knows;
        below = same-below k.scope.names h.below;
        enough = omega (arith, enough);
        from = omega (arith, from, more);
        imports = h.imports;
      }

  stage-goal : (at name_at : Place) (title : Bytes) (e : Expression) (ds : List Declared) → Stage tables r low k (record { at = at; declaration = goal name_at title e } ∷ ds) →
      Stage tables r low (after_declaration k (goal name_at title e)) ds
  stage-goal at name_at title e ds h =
      let next = stage-formula at e ds (record { knows = h.knows; below = h.below; enough = h.enough; from = h.from; imports = h.imports }) in
      record { knows = next.knows; below = next.below; enough = next.enough; from = next.from; imports = next.imports }

-- exports of formulas

abbrev pub ListsIn : Tables → Reads → TypedFormula → Type 0
ListsIn tables all f = Each (ExportLists all tables.exports) (exports_in f.formula)

formula-lists : (tables : Tables) (all r : Reads) (low : ℕ) (k : Known) (at : Place) (item : ℕ) (title : Option Bytes) (e : Expression) (d : Declaration) (ds : List Declared) →
    AgreeBelow (length k.scope.readings) r all → Stage tables r low k (record { at = at; declaration = d } ∷ ds) →
    Each (UsesStand tables) (occurrences k.scope k.before formula_wanted e) →
    Each (If (ListsIn tables all)) (option_map (λ form. record { at = at; item = item; title = title; formula = form }) (formula_in (typed k.scope k.before e)) ∷ [])
formula-lists tables all r low k at item title e d ds agree h uses =
    let R = k.scope.readings in
    let imports : (i : ℕ) (used : ImportUse) (w : Variable) → slice_get tables.imports i ≡ Some used → all.imported i w ↔ IsPaired used.pairs w =
    λ i used w is. let same = agree.imported i w in let first = h.imports i used w is in (λ read. first.0 (same.1 read), λ paired. same.0 (first.1 paired)) in
    let here = stage-at tables r low k (record { at = at; declaration = d } ∷ ds) h in
    let wide : At all R low k.before.next k.scope k.before.next = record {
      knows = knows-later r all R low k.before.next k.before.next k.scope (omega arith) agree h.knows;
      from = here.from;
      begun = here.begun;
      below = here.below;
    } in
    let os = occurrences k.scope k.before formula_wanted e in
    let last = (after k.before e).next in (
      if-one (FormTold tables all R low last k.scope.names os) (ListsIn tables all) (λ form. record { at = at; item = item; title = title; formula = form })
          (formula_in (typed k.scope k.before e)) (λ f listed. listed.listed)
          (formula-told all tables.exports R low last k.scope.names (λ y. Reaches R os y) (typed k.scope k.before e) (told tables all R low imports k.before.next k.scope k.before formula_wanted e wide uses)),
      tt,
    )

formulas-list : (tables : Tables) (all r : Reads) (low : ℕ) (k : Known) (at : Place) (item : ℕ) (d : Declaration) (ds : List Declared) → AgreeBelow (length k.scope.readings) r all →
    Stage tables r low k (record { at = at; declaration = d } ∷ ds) → Each (UsesStand tables) (occurrences_in k d) →
    Each (If (ListsIn tables all)) (formulas_of k at item d)
formulas-list tables all r low k at item (variables vs) ds agree h uses = tt
formulas-list tables all r low k at item (constant name_at n is) ds agree h uses = tt
formulas-list tables all r low k at item (predicate is_pred name_at n vs e) ds agree h uses = tt
formulas-list tables all r low k at item (included text_at file) ds agree h uses = tt
formulas-list tables all r low k at item (default_restriction o n e) ds agree h uses = tt
formulas-list tables all r low k at item (formula e) ds agree h uses = formula-lists tables all r low k at item None e (formula e) ds agree h uses
formulas-list tables all r low k at item (goal name_at title e) ds agree h uses = formula-lists tables all r low k at item (Some title) e (goal name_at title e) ds agree h uses

-- what is read and known after a declaration, and the predicates that are left
abbrev Next : Tables → Reads → ℕ → Known → ℕ → Declaration → List Declared → Type 1
Next tables all low k item d ds =
    (t : Reads) × (more : List Predicate) × (reads_with_predicates t (length (after_declaration k d).scope.readings) more ≡ all)
    × (map (λ p. Some p) more ≡ collected (λ k item d. predicates_of k d.declaration) (after_declaration k d) (item + 1) ds)
    × Stage tables t low (after_declaration k d) ds

-- after a predicate or a default restriction
next-with : (tables : Tables) (all r : Reads) (low : ℕ) (later : List Predicate) (k : Known) (item : ℕ) (d : Declaration) (ds : List Declared) (found : Option Predicate) →
    length (after_declaration k d).scope.readings ≡ length k.scope.readings + 1 →
    reads_with_predicates r (length k.scope.readings) later ≡ all →
    map (λ p. Some p) later ≡ found ∷ collected (λ k item d. predicates_of k d.declaration) (after_declaration k d) (item + 1) ds →
    ((p : Predicate) → Some p ≡ found → Stage tables (reads_with_predicate r (length k.scope.readings) p) low (after_declaration k d) ds) → Next tables all low k item d ds
next-with tables all r low [] k item d ds found long same predicates stage = absurd (cc)
next-with tables all r low (p ∷ later) k item d ds found long same predicates stage =
    let first : Some p ≡ found = cc in
    let others : map (λ p. Some p) later ≡ collected (λ k item d. predicates_of k d.declaration) (after_declaration k d) (item + 1) ds = cc in (
      reads_with_predicate r (length k.scope.readings) p,
      later,
      ap (λ n. reads_with_predicates (reads_with_predicate r (length k.scope.readings) p) n later) long ∙ same,
      others,
      stage p first,
    )

next-stage : (tables : Tables) (all r : Reads) (low : ℕ) (later : List Predicate) (k : Known) (at : Place) (item : ℕ) (d : Declaration) (ds : List Declared) →
    reads_with_predicates r (length k.scope.readings) later ≡ all →
    map (λ p. Some p) later ≡ predicates_of k d ++ collected (λ k item d. predicates_of k d.declaration) (after_declaration k d) (item + 1) ds →
    Stage tables r low k (record { at = at; declaration = d } ∷ ds) → Each (UsesStand tables) (occurrences_in k d) → Next tables all low k item d ds
next-stage tables all r low later k at item (variables vs) ds same predicates h uses = (
  r,
  later,
  ap (λ (rs : List Readings). reads_with_predicates r (length rs) later) (bounds-readings k.scope k.globals vs) ∙ same,
  predicates,
  stage-globals tables r low k at vs ds h,
)
next-stage tables all r low later k at item (constant name_at n is) ds same predicates h uses = (r, later, same, predicates, stage-constant tables r low k at name_at n is ds h)
next-stage tables all r low later k at item (predicate is_pred name_at n vs e) ds same predicates h uses =
    next-with tables all r low later k item (predicate is_pred name_at n vs e) ds (typed_predicate k.scope k.before vs e) (omega arith) same predicates
    (λ p is. stage-predicate tables r low k is_pred at name_at n vs e ds p h uses is)
next-stage tables all r low later k at item (included text_at file) ds same predicates h uses = (r, later, same, predicates, stage-include tables r low k at text_at file ds h)
next-stage tables all r low later k at item (default_restriction o n e) ds same predicates h uses =
    let more = with_readings (occurrences_in k (default_restriction o n e)) k.scope in
    let one : length more.readings ≡ length k.scope.readings + 1 = omega arith in
    next-with tables all r low later k item (default_restriction o n e) ds (typed_default k.scope k.before o n e)
    (ap (λ (rs : List Readings). length rs) (default-readings more o (length k.scope.readings)) ∙ one) same predicates
    (λ p is. stage-default tables r low k at o n e ds p h uses is)
next-stage tables all r low later k at item (formula e) ds same predicates h uses = (r, later, same, predicates, stage-formula tables r low k at e ds h)
next-stage tables all r low later k at item (goal name_at title e) ds same predicates h uses = (r, later, same, predicates, stage-goal tables r low k at name_at title e ds h)

-- all formulas of the next declarations
pub lists-from : (tables : Tables) (all r : Reads) (low : ℕ) (later : List Predicate) (k : Known) (item : ℕ) (ds : List Declared) →
    reads_with_predicates r (length k.scope.readings) later ≡ all → map (λ p. Some p) later ≡ collected (λ k item d. predicates_of k d.declaration) k item ds →
    Stage tables r low k ds → Rest tables k item ds →
    Each (If (ListsIn tables all)) (collected (λ k item d. formulas_of k d.at item d.declaration) k item ds)
lists-from tables all r low later k item [] same predicates h rest = tt
lists-from tables all r low later k item (d ∷ ds) same predicates h rest =
    let agree = subst (λ (t : Reads). AgreeBelow (length k.scope.readings) r t) same (agree-all (length k.scope.readings) r later) in
    let next = next-stage tables all r low later k d.at item d.declaration ds same predicates h (rest-uses tables k item d ds rest) in
    each-append (If (ListsIn tables all)) (formulas_of k d.at item d.declaration) (collected (λ k item d. formulas_of k d.at item d.declaration) (after_declaration k d.declaration) (item + 1) ds)
    (formulas-list tables all r low k d.at item d.declaration ds agree h (rest-uses tables k item d ds rest))
    (lists-from tables all next.0 low next.1 (after_declaration k d.declaration) (item + 1) ds next.2 next.3 next.4 (rest-next tables k item d ds rest))
