-- Calls in the formulas and in the predicates of a source are filled in.
use Rattle.std.proofs.Common.{◌≡◌, ℕ, zero, suc, ◌+◌, ◌-◌, ◌==◌, ◌<◌, ◌≤◌, Bool, true, false, cond, MatchBool, ◌⊎◌, List, [], ◌∷◌, ◌++◌, length, map, take, slice_get, Option, Some, IsSomeAnd, inr, refl, sym, ap, ap₂, subst, ◌∙◌, arith}
use Rattle.std.proofs.lemmas.Bool.{lt-ltb}
use Rattle.std.proofs.lemmas.Bool.Decides.{nat_tests}
use Rattle.std.proofs.lemmas.List.{take_all}
use Rattle.std.proofs.lemmas.Option.{slice_get_within}
use Rattle.std.specs.List.{zip}
use Rattle.ms_logic.specs.declared.checked.ImportUse.{ImportUse}
use Rattle.ms_logic.specs.declared.mode.Order.{Order}
use Rattle.ms_logic.specs.Assignment.{Variable}
use Rattle.ms_logic_core.specs.CoreForm.{imported}
use Rattle.ms_logic.specs.FreeVariables.{FreeUnder, IsBound, IsReadFor, Reads, names_of, parameter_orders_of, reads_of_imports, reads_with_predicate, reads_with_predicates}
use Rattle.ms_logic_core.specs.Spread.{Callees, Names, callees_of, callees_of_imports, callees_with, callees_with_all, default_names, spread_under, variables_of_import}
use Rattle.ms_logic.specs.Tree.{Predicate}
use Rattle.ms_logic.specs.Truth.{Given, Import}
use Rattle.ms_logic.specs.View.{import_of}
use Rattle.ms_names_rules.specs.Numbers.{AreNumberedParameters, AreNumberedPredicates, HasParameters, IsDefault, Tables}
use Rattle.ms_logic_spread.proofs.Seen.{ReadSeen}
use Rattle.ms_logic_spread.proofs.SeenPredicates.{all_seen}
use Rattle.ms_lower.specs.Lowered.{reads_of}
use Rattle.ms_lower.specs.Numbering.{number_at, renumbered, variables_of_use}
use Rattle.ms_lower.proofs.TermScopes.{variable}
use Rattle.ms_logic_core.specs.Calls.{calling_with, calling_with_all}
use Rattle.ms_lower.specs.Calling.{called_at, calling, calling_before, free_at, names_at, plain_numbers}
use Rattle.ms_lower.specs.Numbering.{variables_of_call}
use Rattle.ms_build_source.specs.inner.Filling.{BodiesAreFilled, IsSource, SpreadsAreFilled}
use Rattle.ms_build_source.proofs.FilledCalls.{filling_of, call_fills}
use Rattle.ms_build_source.proofs.FilledForms.{CalleesFill, Keeps, form_fills}
use Rattle.ms_build_source.proofs.FilledPredicates.{body_fills, body_numbered, body_of, body_within, default_out, free_beyond, names_out, numbered_within, own_body, own_parameters, own_reads, parameters_above, read_in}
use Rattle.ms_build_source.proofs.FilledTerms.{Filling, Fills}

-- the imports of a source are those of its table, with their answers
imports_same : (uses : List ImportUse) (imports : List Import) → length uses ≡ length imports → ((i : ℕ) → variables_of_import (slice_get imports i) ≡ variables_of_use (slice_get uses i)) →
    map (λ p. import_of p.0 p.1) (zip uses (map (λ found. found.answer) imports)) ≡ imports
imports_same [] [] count same = refl
imports_same [] (found ∷ imports) count same = absurd (omega (arith, count))
imports_same (u ∷ uses) [] count same = absurd (omega (arith, count))
imports_same (u ∷ uses) (found ∷ imports) count same =
    ap₂ (λ vs rest. let first : Import = record { variables = vs; answer = found.answer } in first ∷ rest) (sym (same 0)) (imports_same uses imports (omega (arith, count)) (λ i. same (suc i)))

-- what holds of an item that is there
of_item : {A : Type 0} (P : A → Type 0) (o : Option A) (x : A) → o ≡ Some x → IsSomeAnd o P → P x
of_item {A} P o x is holds = let Q : Option A → Type 0 = λ p. IsSomeAnd p P in let there : Q (Some x) = subst Q is holds in there

some_and : {A : Type 0} (P : A → Type 0) (o : Option A) (x : A) → o ≡ Some x → P x → IsSomeAnd o P
some_and {A} P o x is holds = let Q : Option A → Type 0 = λ p. IsSomeAnd p P in subst Q (sym is) holds

module _ (given : Given) (tables : Tables) (globals : ℕ) (globals_seen : List Variable) (source : IsSource given tables globals globals_seen) (kept : ℕ) (within : kept ≤ globals) where
  -- how calls are filled in there
  abbrev filling : Filling
  filling = filling_of kept globals given

  -- what predicates read is a global
  all_read : ReadSeen tables (reads_of given) (length tables.predicates) globals_seen
  all_read =
      let R : List Import → List Predicate → Type 0 = λ imports ps. ReadSeen tables (reads_with_predicates (reads_of_imports imports) 0 ps) (length tables.predicates) globals_seen in
      subst (R given.imports) source.predicates_are
      (subst (λ imports. R imports tables.predicates) (imports_same tables.imports given.imports source.imports_are source.variables_are)
      (all_seen tables globals_seen (map (λ found. found.answer) given.imports) source.predicates))

  module _ (n : ℕ) (q : Predicate) (ps : List Predicate) (r : Reads) (c d : Callees) (fills : CalleesFill filling tables n r c d)
      (bodies : callees_of given ≡ callees_with_all d n (q ∷ ps)) (reads : reads_of given ≡ reads_with_predicates r n (q ∷ ps))
      (known : slice_get tables.predicates n ≡ Some q) (numbered : AreNumberedParameters tables n globals_seen q.parameters q.body) where
    -- a call of the predicate
    own_call : (orders : List Order) (names : Names) (free : ℕ) → parameter_orders_of q ≡ orders → kept ≤ free → Keeps filling (read_in r q orders) names →
        Fills filling (imported (length given.imports + n) (map (λ e. names e.variable.order e.variable.name) q.parameters ++ free ∷ [])) (body_of d q names free)
    own_call orders names free fits above keeps =
        let read : (reads_of given).called n ≡ read_in r q = ap (λ e. e.called n) reads ∙ own_reads r n q ps in
        let parameters : (callees_of given).parameters n ≡ names_of q = ap (λ e. e.parameters n) bodies ∙ own_parameters d n q ps in
        let body : (callees_of given).body n ≡ body_of d q = ap (λ e. e.body n) bodies ∙ own_body d n q ps in
        let there : slice_get given.predicates n ≡ Some q = ap (λ items. slice_get items n) (sym source.predicates_are) ∙ known in
        let has : HasParameters tables (length tables.predicates) n orders = (slice_get_within tables.predicates n q known, some_and (λ found. parameter_orders_of found ≡ orders) (slice_get tables.predicates n) q known fits) in
        subst (λ B. Fills filling (imported (length given.imports + n) (map (λ e. names e.variable.order e.variable.name) q.parameters ++ free ∷ [])) (B names free)) body
        (call_fills kept globals within given n q orders names free there parameters fits above (λ w e. source.within w (all_read.called n orders w has e))
        (λ w e below. keeps w (subst (λ R. R orders w) read e) below))

    -- and of one before it
    called_with : (b : Bool) (p : ℕ) (orders : List Order) (names : Names) (free : ℕ) → (p == n) ≡ b → HasParameters tables (n + 1) p orders → kept ≤ free →
        Keeps filling (λ w. MatchBool b (read_in r q orders w) (r.called p orders w)) names →
        Fills filling ((cond b (λ names free. imported (length given.imports + n) (map (λ e. names e.variable.order e.variable.name) q.parameters ++ free ∷ [])) (c.body p)) names free) ((cond b (body_of d q) (d.body p)) names free)
    called_with true p orders names free test has above keeps =
        let same : p ≡ n = grind (arith, nat_tests) in
        own_call orders names free (of_item (λ found. parameter_orders_of found ≡ orders) (slice_get tables.predicates p) q (ap (slice_get tables.predicates) same ∙ known) has.1) above keeps
    called_with false p orders names free test has above keeps =
        let differ : p ≡ n → ⊥ = λ same. grind (arith, nat_tests) in
        let low = has.0 in
        let below : p < n = omega arith in
        fills.called p orders names free (below, has.1) above keeps

    default_with : (b : Bool) (p x : ℕ) (o : Order) (names : Names) (free : ℕ) → (p == n) ≡ b → IsDefault tables (n + 1) p o → kept ≤ free →
        Keeps filling (λ w. MatchBool b (IsReadFor q.parameters x w ⊎ ((¬ IsBound (names_of q) (parameter_orders_of q) w) × FreeUnder r q.body w)) (r.default p x w)) names →
        Fills filling ((cond b (λ x names free. spread_under c q.body (default_names q.parameters x names) free) (c.default p)) x names free) ((cond b (λ x names free. spread_under d q.body (default_names q.parameters x names) free) (d.default p)) x names free)
    default_with true p x o names free test has above keeps =
        let inside = body_numbered filling tables n q.parameters q.body globals_seen source.all numbered in
        form_fills filling tables n r c d fills q.body inside.0 (default_names q.parameters x names) free inside.1 inside.2 above (λ w e below.
        let out : ¬ IsBound (names_of q) (parameter_orders_of q) w = λ bound. let high = parameters_above filling tables n q.parameters q.body globals_seen w source.all numbered bound in omega (arith, high, below) in
        let is = keeps w (inr (out, e)) below in (default_out q.parameters x names w out ∙ is.0, is.1))
    default_with false p x o names free test has above keeps =
        let differ : p ≡ n → ⊥ = λ same. grind (arith, nat_tests) in
        let low = has.0 in
        let below : p < n = omega arith in
        fills.default p x o names free (below, has.1) above keeps

    apart_with : (b : Bool) (p : ℕ) (orders : List Order) (w : Variable) → MatchBool b (read_in r q orders w) (r.called p orders w) → ¬ IsBound (cond b (names_of q) (d.parameters p)) orders w
    apart_with true p orders w read = read.0
    apart_with false p orders w read = fills.apart p orders w read

    predicate_fills : CalleesFill filling tables (n + 1) (reads_with_predicate r n q) (calling_with (length given.imports) c n q) (callees_with d n q)
    predicate_fills = record {
      parameters = λ p. ap (λ xs. cond (p == n) (names_of q) xs) (fills.parameters p);
      apart = λ p orders w read. apart_with (p == n) p orders w read;
      called = λ p orders names free has above keeps. called_with (p == n) p orders names free refl has above keeps;
      default = λ p x o names free has above keeps. default_with (p == n) p x o names free refl has above keeps;
      imported = fills.imported;
    }

  -- the first so many of the predicates from a number on
  predicates_fill : (k n : ℕ) (ps : List Predicate) (r : Reads) (c d : Callees) → k ≤ length ps → CalleesFill filling tables n r c d → callees_of given ≡ callees_with_all d n ps → reads_of given ≡ reads_with_predicates r n ps →
      ((j : ℕ) → slice_get tables.predicates (n + j) ≡ slice_get ps j) → AreNumberedPredicates tables n globals_seen ps →
      CalleesFill filling tables (n + k) (reads_with_predicates r n (take k ps)) (calling_with_all (length given.imports) c n (take k ps)) (callees_with_all d n (take k ps))
  predicates_fill zero n ps r c d long fills bodies reads places numbered =
      let same : n ≡ n + 0 = omega arith in subst (λ b. CalleesFill filling tables b r c d) same fills
  predicates_fill (suc k) n [] r c d long fills bodies reads places numbered = absurd (omega (arith, long))
  predicates_fill (suc k) n (q ∷ ps) r c d long fills bodies reads places numbered =
      let here : n ≡ n + 0 = omega arith in
      let bound : n + 1 + k ≡ n + suc k = omega arith in
      subst (λ b. CalleesFill filling tables b (reads_with_predicates (reads_with_predicate r n q) (n + 1) (take k ps)) (calling_with_all (length given.imports) (calling_with (length given.imports) c n q) (n + 1) (take k ps)) (callees_with_all (callees_with d n q) (n + 1) (take k ps))) bound
      (predicates_fill k (n + 1) ps (reads_with_predicate r n q) (calling_with (length given.imports) c n q) (callees_with d n q) (omega (arith, long))
      (predicate_fills n q ps r c d fills bodies reads (ap (slice_get tables.predicates) here ∙ places 0) numbered.0) bodies reads
      (λ j. let moved : n + 1 + j ≡ n + suc j = omega arith in ap (slice_get tables.predicates) moved ∙ places (suc j)) numbered.1)

  -- an import of the source stands for itself
  import_fills : (i : ℕ) (xs : List ℕ) → i < length tables.imports → Fills filling (imported i xs) (imported i xs)
  import_fills i xs low =
      let inside = lt-ltb i (length given.imports) (let count = source.imports_are in omega (arith, low, count)) in
      let known = variables_of_import (slice_get given.imports i) in
      let ys : (b : Bool) → List ℕ = λ b. map (λ v. number_at kept globals v.1.order v.0) (zip xs (cond b known (variables_of_call (slice_get given.predicates (i - length given.imports))))) in
      ap (λ b. cond b (imported i (ys b)) (called_at globals given (i - length given.imports) (slice_get given.predicates (i - length given.imports)) (ys b))) inside

  -- the predicates before one
  pub before_fill : (p : ℕ) → p ≤ length tables.predicates →
      CalleesFill filling tables p (reads_with_predicates (reads_of_imports given.imports) 0 (take p given.predicates)) (calling_before given p) (callees_with_all (callees_of_imports given.imports) 0 (take p given.predicates))
  before_fill p long =
      let base = callees_of_imports given.imports in
      let none : CalleesFill filling tables 0 (reads_of_imports given.imports) base base = record {
        parameters = λ p. refl;
        apart = λ p orders w read. absurd read;
        called = λ p orders names free has above keeps. refl;
        default = λ p x o names free has above keeps. refl;
        imported = λ i names low. import_fills i (map (λ v. names v.order v.name) (base.imported i)) low;
      } in
      let at : 0 + p ≡ p = omega arith in
      let count = ap (λ (items : List Predicate). length items) source.predicates_are in
      subst (λ b. CalleesFill filling tables b (reads_with_predicates (reads_of_imports given.imports) 0 (take p given.predicates)) (calling_before given p) (callees_with_all base 0 (take p given.predicates))) at
      (predicates_fill p 0 given.predicates (reads_of_imports given.imports) base base (omega (arith, long, count)) none refl refl
      (λ j. let moved : 0 + j ≡ j = omega arith in ap (slice_get tables.predicates) moved ∙ ap (λ items. slice_get items j) source.predicates_are)
      (subst (AreNumberedPredicates tables 0 globals_seen) source.predicates_are source.predicates))

  -- all of them
  pub all_fill : CalleesFill filling tables (length tables.predicates) (reads_of given) (calling given) (callees_of given)
  all_fill =
      let count = ap (λ (items : List Predicate). length items) source.predicates_are in
      subst (λ items. CalleesFill filling tables (length tables.predicates) (reads_with_predicates (reads_of_imports given.imports) 0 items) (calling_with_all (length given.imports) (callees_of_imports given.imports) 0 items) (callees_with_all (callees_of_imports given.imports) 0 items))
      (take_all (length tables.predicates) given.predicates (omega (arith, count))) (before_fill (length tables.predicates) (omega arith))

pub spreads_filled : SpreadsAreFilled
spreads_filled given tables globals globals_seen source kept seen f names free within above numbered wider keeps =
    form_fills (filling_of kept globals given) tables (length tables.predicates) (reads_of given) (calling given) (callees_of given) (all_fill given tables globals globals_seen source kept within) f seen names free
    (λ x below. let found = source.all x below in (found.0, wider (variable x found.0) found.1)) numbered above keeps

pub bodies_filled : BodiesAreFilled
bodies_filled given tables globals globals_seen source p q ys known =
    let way = filling_of globals globals given in
    let base = callees_of_imports given.imports in
    let before = take p given.predicates in
    let names = names_at globals q.parameters ys in
    let free = free_at globals q.parameters ys in
    let count = ap (λ (items : List Predicate). length items) source.predicates_are in
    let low = slice_get_within given.predicates p q known in
    let at : 0 + p ≡ p = omega arith in
    let numbered : AreNumberedParameters tables p globals_seen q.parameters q.body =
    subst (λ k. AreNumberedParameters tables k globals_seen q.parameters q.body) at
    (numbered_within tables globals_seen 0 given.predicates p q known (subst (AreNumberedPredicates tables 0 globals_seen) source.predicates_are source.predicates)) in
    let body : (callees_of given).body p ≡ body_of (callees_with_all base 0 before) q = ap (callees_of given).body (sym at) ∙ body_within base 0 given.predicates p q known in
    body_fills way tables p (reads_with_predicates (reads_of_imports given.imports) 0 before) (calling_before given p) (callees_with_all base 0 before)
    (before_fill given tables globals globals_seen source globals (omega arith) p (omega (arith, low, count))) q globals_seen names free source.all numbered (free_beyond globals q.parameters ys) (λ w e below.
    let out : ¬ IsBound (names_of q) (parameter_orders_of q) w = λ bound. let high = parameters_above way tables p q.parameters q.body globals_seen w source.all numbered bound in omega (arith, high, below) in
    (names_out globals q.parameters ys w out, below))
    ∙ ap (λ B. renumbered (plain_numbers globals globals given) (B names free)) (sym body)
