-- What the predicates and imports of a source read is seen.
use Rattle.std.proofs.Common.{◌≡◌, ℕ, zero, suc, ◌+◌, ◌<◌, ◌==◌, Bool, true, false, MatchBool, ◌⊎◌, inl, inr, ⊎_elim, List, [], ◌∷◌, length, map, slice_get, Option, Some, IsSomeAnd, refl, ◌∙◌, ap, subst, arith}
use Rattle.std.specs.List.{zip}
use Rattle.std.proofs.lemmas.Bool.Decides.{nat_tests}
use Rattle.ms_logic.specs.declared.checked.ImportUse.{ImportUse}
use Rattle.ms_logic.specs.declared.checked.MapPair.{MapPair}
use Rattle.ms_logic.specs.declared.mode.Order.{Order}
use Rattle.ms_logic.specs.Assignment.{Variable}
use Rattle.ms_logic.specs.FreeVariables.{IsVariable, IsBound, IsListed, IsReadBy, IsReadFor, Reads, names_of, parameter_orders_of, FreeUnder, FreeInRestrictions, reads_of_imports, reads_with_predicate, reads_with_predicates}
use Rattle.ms_logic.specs.Tree.{Declaration, Predicate}
use Rattle.ms_logic.specs.View.{import_of, Answers}
use Rattle.ms_names_rules.specs.Numbers.{Tables, Sees, parameter_orders, HasParameters, IsOnePlain, IsDefault, ImportSees, AreNumberedParameters, AreNumberedPredicates}
use Rattle.ms_logic.specs.Lists.{Each}
use Rattle.ms_logic_spread.proofs.Seen.{ReadSeen, listed-sees, parameters_seen}

-- what holds of an item that is there
of_item : {A : Type 0} (P : A → Type 0) (o : Option A) (a : A) → o ≡ Some a → IsSomeAnd o P → P a
of_item {A} P o a is holds = let Q : Option A → Type 0 = λ p. IsSomeAnd p P in let there : Q (Some a) = subst Q is holds in there

-- the one parameter of a default restriction
plain_read : (o : Order) (ds : List Declaration) (x : ℕ) (w : Variable) → IsOnePlain o ds → IsReadFor ds x w → IsVariable x o w
plain_read o [] x w plain reads = absurd plain
plain_read o (d ∷ []) x w plain reads = ⊎_elim (λ is. (is.0, is.1 ∙ plain.0)) (λ none. absurd none) reads
plain_read o (d ∷ c ∷ ds) x w plain reads = absurd plain

module _ (tables : Tables) (r : Reads) (n : ℕ) (globals : List Variable) (reads : ReadSeen tables r n globals) (q : Predicate)
    (known : slice_get tables.predicates n ≡ Some q) (numbered : AreNumberedParameters tables n globals q.parameters q.body) where
  -- the predicate's number, or a smaller one
  found_there : (p : ℕ) → p ≡ n → slice_get tables.predicates p ≡ Some q
  found_there p same = ap (slice_get tables.predicates) same ∙ known

  body_seen : (w : Variable) → (IsBound (names_of q) (parameter_orders_of q) w → ⊥) → FreeInRestrictions r q.parameters w ⊎ FreeUnder r q.body w → IsListed globals w
  body_seen w not_bound free =
      ⊎_elim (λ bound. absurd (not_bound bound)) (λ listed. listed) (parameters_seen tables r n globals reads q.parameters q.body globals (λ v listed. listed) numbered w free)

  called_seen : (b : Bool) (p : ℕ) (orders : List Order) (w : Variable) → (p == n) ≡ b → HasParameters tables (n + 1) p orders →
      MatchBool b ((IsBound (names_of q) orders w → ⊥) × (FreeInRestrictions r q.parameters w ⊎ FreeUnder r q.body w)) (r.called p orders w) → IsListed globals w
  called_seen true p orders w test has free =
      let same : p ≡ n = grind (arith, nat_tests) in
      let fits : parameter_orders q ≡ orders = of_item (λ known. parameter_orders known ≡ orders) (slice_get tables.predicates p) q (found_there p same) has.1 in
      let P : List Order → Type 0 = λ os. IsBound (names_of q) os w in
      body_seen w (λ bound. free.0 (subst P fits bound)) free.1
  called_seen false p orders w test has free =
      let differ : p ≡ n → ⊥ = λ same. grind (arith, nat_tests) in
      let low = has.0 in
      let below : p < n = omega arith in reads.called p orders w (below, has.1) free

  default_seen : (b : Bool) (p x : ℕ) (o : Order) (w : Variable) → (p == n) ≡ b → IsDefault tables (n + 1) p o →
      MatchBool b (IsReadFor q.parameters x w ⊎ ((IsBound (names_of q) (parameter_orders_of q) w → ⊥) × FreeUnder r q.body w)) (r.default p x w) → IsVariable x o w ⊎ IsListed globals w
  default_seen true p x o w test has free =
      let same : p ≡ n = grind (arith, nat_tests) in
      let plain : IsOnePlain o q.parameters = of_item (λ known. IsOnePlain o known.parameters) (slice_get tables.predicates p) q (found_there p same) has.1 in
      ⊎_elim (λ at_x. inl (plain_read o q.parameters x w plain at_x)) (λ body. inr (body_seen w body.0 (inr body.1))) free
  default_seen false p x o w test has free =
      let differ : p ≡ n → ⊥ = λ same. grind (arith, nat_tests) in
      let low = has.0 in
      let below : p < n = omega arith in reads.default p x o w (below, has.1) free

  seen_with_predicate : ReadSeen tables (reads_with_predicate r n q) (n + 1) globals
  seen_with_predicate = record {
    called = λ p orders w has free. called_seen (p == n) p orders w refl has free;
    default = λ p x o w has free. default_seen (p == n) p x o w refl has free;
    imported = reads.imported;
  }

-- all predicates from a number on
seen_with_predicates : (tables : Tables) (r : Reads) (n bound : ℕ) (globals : List Variable) (later : List Predicate) → bound ≡ n + length later →
    ((j : ℕ) → slice_get tables.predicates (n + j) ≡ slice_get later j) → AreNumberedPredicates tables n globals later → ReadSeen tables r n globals →
    ReadSeen tables (reads_with_predicates r n later) bound globals
seen_with_predicates tables r n bound globals [] count places numbered reads =
    let same : n ≡ bound = omega arith in subst (λ b. ReadSeen tables r b globals) same reads
seen_with_predicates tables r n bound globals (q ∷ later) count places numbered reads =
    let here : n ≡ n + 0 = omega arith in
    seen_with_predicates tables (reads_with_predicate r n q) (n + 1) bound globals later (omega arith)
    (λ j. let moved : n + 1 + j ≡ n + suc j = omega arith in ap (slice_get tables.predicates) moved ∙ places (suc j)) numbered.1
    (seen_with_predicate tables r n globals reads q (ap (slice_get tables.predicates) here ∙ places 0) numbered.0)

-- the variables of an import
pairs_seen : (pairs : List MapPair) (seen : List Variable) (w : Variable) → Each (λ (pair : MapPair). Sees seen pair.variable pair.order) pairs →
    IsListed (map (λ (p : MapPair). record { name = p.variable; order = p.order }) pairs) w → IsListed seen w
pairs_seen [] seen w each listed = absurd listed
pairs_seen (pair ∷ pairs) seen w each listed =
    ⊎_elim (λ is. listed-sees seen pair.variable pair.order w each.0 is) (λ later. pairs_seen pairs seen w each.1 later) listed

imports_seen : (used : List ImportUse) (answers : Answers) (i : ℕ) (seen : List Variable) (w : Variable) → IsSomeAnd (slice_get used i) (ImportSees seen) →
    IsReadBy (slice_get (map (λ p. import_of p.0 p.1) (zip used answers)) i) w → IsListed seen w
imports_seen [] answers i seen w sees read = absurd read
imports_seen (u ∷ used) [] i seen w sees read = absurd read
imports_seen (u ∷ used) (answer ∷ answers) zero seen w sees read = pairs_seen u.pairs seen w sees read
imports_seen (u ∷ used) (answer ∷ answers) (suc i) seen w sees read = imports_seen used answers i seen w sees read

-- what the predicates and imports of a source read
pub all_seen : (tables : Tables) (globals : List Variable) (answers : Answers) → AreNumberedPredicates tables 0 globals tables.predicates →
    ReadSeen tables (reads_with_predicates (reads_of_imports (map (λ p. import_of p.0 p.1) (zip tables.imports answers))) 0 tables.predicates) (length tables.predicates) globals
all_seen tables globals answers numbered =
    seen_with_predicates tables (reads_of_imports (map (λ p. import_of p.0 p.1) (zip tables.imports answers))) 0 (length tables.predicates) globals tables.predicates (omega arith)
    (λ j. let moved : 0 + j ≡ j = omega arith in ap (slice_get tables.predicates) moved) numbered
    (record {
      called = λ p orders w has free. absurd free;
      default = λ p x o w has free. absurd free;
      imported = λ i seen w sees read. imports_seen tables.imports answers i seen w sees read;
    })
