-- A checked source is well numbered.
use Rattle.std.proofs.Common.{◌≡◌, ℕ, ◌+◌, ◌<◌, ◌≤◌, List, [], ◌∷◌, ◌++◌, length, map, Option, Some, refl, sym, subst, ap, ◌∙◌, arith, add-zero}
use Rattle.std.specs.Prelude.{flat_map, slice_get}
use Rattle.std.specs.Option.{IsSomeAnd}
use Rattle.std.proofs.lemmas.Option.{slice_get_within}
use Rattle.ms_list.specs.declared.at.At.{At}
use Rattle.ms_logic.specs.declared.mode.Order.{Order}
use Rattle.ms_logic.specs.declared.mode.Order.TheVariants.{Zero, One, Two}
use Rattle.ms_logic.specs.Assignment.{Variable}
use Rattle.ms_logic.specs.Tree as tree
use Rattle.ms_logic.specs.Tree.{Predicate}
use Rattle.ms_names_rules.specs.declared.meaning.Meaning.{Meaning}
use Rattle.ms_names_rules.specs.declared.meaning.Meaning.TheVariants as meaning
use Rattle.ms_names_rules.specs.Scope.{Bytes, Scope, bind, count_of_bounds, under_bounds, with_default}
use Rattle.ms_parse_grammar.specs.Tree.{Expression, Variables, no_variables, and_variable, Declaration, variables, constant, predicate, included, default_restriction, formula, goal, Declared}
use Rattle.ms_names_rules.specs.Before.{Before, with_names, after, after_bounds}
use Rattle.ms_names_rules.specs.inner.Binder.{predicate_with, restricted_variable}
use Rattle.ms_names_rules.specs.Declarations.{Known, after_declaration, before_after, globals_in, occurrences_in, orders_of_bounds, scope_after, with_readings}
use Rattle.ms_names_rules.specs.Numbers.{Tables, HasParameters, IsDefault, IsOnePlain, parameter_orders, IsNumbered, IsNumberedRestriction}
use Rattle.ms_logic.specs.Lists.{Each}
use Rattle.ms_names_rules.specs.Typed.{formula_in, typed}
use Rattle.ms_names_rules.specs.TypedSource.{TypedFormula, TypedGlobal, collected, formulas_of, globals_of, parameters_of_bounds, predicates_of, restriction_of_parameter, typed_default, typed_predicate}
use Rattle.ms_names_rules.specs.Uses.{export_at, import_at}
use Rattle.ms_names_rules.proofs.Fitting.{Fits, If, IsBelow, below-more, each-append, each-weaker, if-any, if-one, new-above}
use Rattle.ms_names_rules.proofs.Growth.{grows, grows-bounds}
use Rattle.ms_names_rules.proofs.Numbering.{Stand, if-two}
use Rattle.ms_names_rules.proofs.NumberedDeclarations.{AreSeen, EachPredicate, Ready, Stands, bounds-long, counts-declaration, fits-weaker, formulas-numbered, globals-below, globals-fit, globals-numbered, predicates-numbered}
use Rattle.ms_names_rules.proofs.Standing.{counted, get-some, stand-back, stand-front}
use Rattle.std.proofs.lemmas.List.{map-append}
use Rattle.ms_names_rules.specs.inner.Examples.{holds}

-- what a predicate and a default restriction take

parameters-orders : (s : Scope) (x : ℕ) (b : Before) (vs : Variables) →
    If (λ (ps : List tree.Declaration). map (λ d. d.variable.order) ps ≡ orders_of_bounds vs) (parameters_of_bounds s x b vs)
parameters-orders s x b no_variables = refl
parameters-orders s x b (and_variable vs at o n d) =
    let y = x + count_of_bounds vs in
    let r = restriction_of_parameter (under_bounds s x (and_variable vs at o n d)) (after_bounds b vs) d in
    if-two (λ (ps : List tree.Declaration). map (λ d. d.variable.order) ps ≡ orders_of_bounds vs) (λ r. Unit {0})
    (λ (ps : List tree.Declaration). map (λ d. d.variable.order) ps ≡ orders_of_bounds vs ++ o ∷ [])
    (λ earlier there. earlier ++ restricted_variable y o there ∷ [])
    (parameters_of_bounds s x b vs) r
    (λ earlier there h k. map-append (λ (d : tree.Declaration). d.variable.order) earlier (restricted_variable y o there ∷ []) ∙ ap (λ os. os ++ o ∷ []) h)
    (parameters-orders s x b vs) (if-any r)

predicate-orders : (s : Scope) (b : Before) (vs : Variables) (e : Expression) →
    If (λ (p : Predicate). parameter_orders p ≡ orders_of_bounds vs) (typed_predicate s b vs e)
predicate-orders s b vs e =
    let here = with_names b (count_of_bounds vs) in
    let body = formula_in (typed (under_bounds s b.next vs) (after_bounds here vs) e) in
    if-two (λ (ps : List tree.Declaration). map (λ d. d.variable.order) ps ≡ orders_of_bounds vs) (λ f. Unit {0})
    (λ (p : Predicate). parameter_orders p ≡ orders_of_bounds vs) predicate_with (parameters_of_bounds s b.next here vs) body (λ ps f h k. h)
    (parameters-orders s b.next here vs) (if-any body)

default-plain : (s : Scope) (b : Before) (o : Order) (n : Bytes) (e : Expression) → If (λ (p : Predicate). IsOnePlain o p.parameters) (typed_default s b o n e)
default-plain s b o n e =
    let body = formula_in (typed (bind n (meaning.Variable b.next o) s) (with_names b 1) e) in
    if-one (λ f. Unit {0}) (λ (p : Predicate). IsOnePlain o p.parameters)
    (predicate_with (record { variable = record { name = b.next; order = o }; restriction = tree.unrestricted } ∷ [])) body (λ f h. (refl, refl)) (if-any body)

-- a predicate that stands in the tables
found-predicate : (tables : Tables) (n : ℕ) (P : Predicate → Type 0) (found : Option Predicate) → slice_get (map (λ p. Some p) tables.predicates) n ≡ Some found →
    If P found → (n < length tables.predicates) × IsSomeAnd (slice_get tables.predicates n) P
found-predicate tables n P found stands holds =
    let here = get-some tables.predicates n found stands in
    let Q : Option Predicate → Type 0 = λ known. IsSomeAnd known P in
    let R : Option Predicate → Type 0 = λ known. If P known in
    (slice_get_within tables.predicates n here.0 here.1, subst Q (sym here.1) (subst R here.2 holds))

-- what is known after a declaration fits too

readings-same : (s : Scope) (x : ℕ) (vs : Variables) → (under_bounds s x vs).readings ≡ s.readings
readings-same s x no_variables = refl
readings-same s x (and_variable vs at o n d) = readings-same s x vs

declaration-grows : (b : Before) (d : Declaration) → b.next ≤ (before_after b d).next
declaration-grows b (variables vs) = grows-bounds b vs
declaration-grows b (constant at n is) = omega arith
declaration-grows b (predicate is_pred at n vs e) =
    let here = with_names b (count_of_bounds vs) in
    let first : b.next ≤ here.next = omega arith in
    let second : here.next ≤ (after_bounds here vs).next = grows-bounds here vs in
    let third : (after_bounds here vs).next ≤ (after (after_bounds here vs) e).next = grows (after_bounds here vs) e in
    omega arith
declaration-grows b (included text_at file) = omega arith
declaration-grows b (default_restriction o n e) =
    let here = with_names b 1 in
    let first : b.next ≤ here.next = omega arith in
    let second : here.next ≤ (after here e).next = grows here e in
    omega arith
declaration-grows b (formula e) = grows b e
declaration-grows b (goal name_at title e) = grows b e

fits-default : (tables : Tables) (bound : ℕ) (seen : List Variable) (s : Scope) (o : Order) (p : ℕ) → Fits tables bound seen s → IsDefault tables bound p o →
    Fits tables bound seen (with_default o p s)
fits-default tables bound seen s Zero p fits h = fits
fits-default tables bound seen s One p fits h = record { names = fits.names; numbers = h; sets = fits.sets; falls = fits.falls }
fits-default tables bound seen s Two p fits h = record { names = fits.names; numbers = fits.numbers; sets = h; falls = fits.falls }

default-readings : (s : Scope) (o : Order) (p : ℕ) → (with_default o p s).readings ≡ s.readings
default-readings s Zero p = refl
default-readings s One p = refl
default-readings s Two p = refl

default-names : (s : Scope) (o : Order) (p : ℕ) → (with_default o p s).names ≡ s.names
default-names s Zero p = refl
default-names s One p = refl
default-names s Two p = refl

same-below : (x : ℕ) (names : List (Bytes × Meaning)) → Each (IsBelow x) names → Each (IsBelow (x + 0)) names
same-below x names below = each-weaker (IsBelow x) (IsBelow (x + 0)) names (below-more x (x + 0) (omega arith)) below

pub ready-next : (tables : Tables) (gs : List TypedGlobal) (seen : List Variable) (k : Known) (at : At) (item : ℕ) (d : Declaration) → AreSeen seen gs →
    Ready tables seen k → Stands tables gs k at item d → Ready tables seen (after_declaration k d)
ready-next tables gs seen k at item (variables vs) are ready here =
    let same = readings-same k.scope k.globals vs in
    record {
      fits = subst (λ rs. Fits tables (length rs) seen (under_bounds k.scope k.globals vs)) (sym same)
          (globals-fit tables (length k.scope.readings) seen gs at item k.scope k.globals k.before vs are here.globals_are ready.below ready.fits);
      new = new-above seen k.before.next (before_after k.before (variables vs)).next ready.new (declaration-grows k.before (variables vs));
      below = globals-below k.scope k.globals vs ready.below;
      within = subst (λ rs. length rs ≤ length tables.predicates) (sym same) ready.within;
    }
ready-next tables gs seen k at item (constant name_at n is) are ready here = record {
  fits = record { names = (tt, ready.fits.names); numbers = ready.fits.numbers; sets = ready.fits.sets; falls = ready.fits.falls };
  new = ready.new;
  below = (tt, same-below k.globals k.scope.names ready.below);
  within = ready.within;
}
ready-next tables gs seen k at item (predicate is_pred name_at n vs e) are ready here =
    let there = found-predicate tables (length k.scope.readings) (λ p. parameter_orders p ≡ orders_of_bounds vs) (typed_predicate k.scope k.before vs e)
    here.predicates_are.0 (predicate-orders k.scope k.before vs e) in
    let less : length k.scope.readings < length tables.predicates = there.0 in
    let all = (after_declaration k (predicate is_pred name_at n vs e)).scope.readings in
    let bound = length all in
    let plain = fits-weaker tables (length k.scope.readings) bound seen k.scope (omega arith) ready.fits in
    let own : HasParameters tables bound (length k.scope.readings) (orders_of_bounds vs) = (omega arith, there.1) in
    record {
      fits = record { names = (own, plain.names); numbers = plain.numbers; sets = plain.sets; falls = plain.falls };
      new = new-above seen k.before.next (before_after k.before (predicate is_pred name_at n vs e)).next ready.new (declaration-grows k.before (predicate is_pred name_at n vs e));
      below = (tt, same-below k.globals k.scope.names ready.below);
      within = omega arith;
    }
ready-next tables gs seen k at item (included text_at file) are ready here = record {
  fits = ready.fits;
  new = ready.new;
  below = same-below k.globals k.scope.names ready.below;
  within = ready.within;
}
ready-next tables gs seen k at item (default_restriction o n e) are ready here =
    let there = found-predicate tables (length k.scope.readings) (λ p. IsOnePlain o p.parameters) (typed_default k.scope k.before o n e)
    here.predicates_are.0 (default-plain k.scope k.before o n e) in
    let less : length k.scope.readings < length tables.predicates = there.0 in
    let more = with_readings (occurrences_in k (default_restriction o n e)) k.scope in
    let bound = length more.readings in
    let plain = fits-weaker tables (length k.scope.readings) bound seen k.scope (omega arith) ready.fits in
    let fit : Fits tables bound seen more = record { names = plain.names; numbers = plain.numbers; sets = plain.sets; falls = plain.falls } in
    let own : IsDefault tables bound (length k.scope.readings) o = (omega arith, there.1) in
    let same = default-readings more o (length k.scope.readings) in
    let low : length more.readings ≤ length tables.predicates = omega arith in
    record {
      fits = subst (λ rs. Fits tables (length rs) seen (with_default o (length k.scope.readings) more)) (sym same)
          (fits-default tables bound seen more o (length k.scope.readings) fit own);
      new = new-above seen k.before.next (before_after k.before (default_restriction o n e)).next ready.new (declaration-grows k.before (default_restriction o n e));
      below = subst (λ names. Each (IsBelow (k.globals + 0)) names) (sym (default-names more o (length k.scope.readings))) (same-below k.globals k.scope.names ready.below);
      within = subst (λ rs. length rs ≤ length tables.predicates) (sym same) low;
    }
ready-next tables gs seen k at item (formula e) are ready here = record {
  fits = ready.fits;
  new = new-above seen k.before.next (before_after k.before (formula e)).next ready.new (declaration-grows k.before (formula e));
  below = same-below k.globals k.scope.names ready.below;
  within = ready.within;
}
ready-next tables gs seen k at item (goal name_at title e) are ready here = record {
  fits = ready.fits;
  new = new-above seen k.before.next (before_after k.before (goal name_at title e)).next ready.new (declaration-grows k.before (goal name_at title e));
  below = same-below k.globals k.scope.names ready.below;
  within = ready.within;
}

-- the rest of a source

-- what the next declarations give stands in the tables, and their globals among all globals
pub record Rest (tables : Tables) (gs : List TypedGlobal) (k : Known) (item : ℕ) (ds : List Declared) : Type 0 where
  pub globals_are : Stand (map (λ g. Some g) gs) k.globals (collected (λ k item d. globals_of k d.at item d.declaration) k item ds)
  pub predicates_are : Stand (map (λ p. Some p) tables.predicates) (length k.scope.readings) (collected (λ k item d. predicates_of k d.declaration) k item ds)
  pub imports_are : Stand tables.imports k.before.imports (collected (λ k item d. flat_map import_at (occurrences_in k d.declaration)) k item ds)
  pub exports_are : Stand tables.exports k.before.exports (collected (λ k item d. flat_map export_at (occurrences_in k d.declaration)) k item ds)

rest-here : (tables : Tables) (gs : List TypedGlobal) (k : Known) (item : ℕ) (d : Declared) (ds : List Declared) → Rest tables gs k item (d ∷ ds) →
    Stands tables gs k d.at item d.declaration
rest-here tables gs k item d ds rest = record {
  globals_are = stand-front (map (λ g. Some g) gs) k.globals (globals_of k d.at item d.declaration) _ rest.globals_are;
  predicates_are = stand-front (map (λ p. Some p) tables.predicates) (length k.scope.readings) (predicates_of k d.declaration) _ rest.predicates_are;
  imports_are = stand-front tables.imports k.before.imports (flat_map import_at (occurrences_in k d.declaration)) _ rest.imports_are;
  exports_are = stand-front tables.exports k.before.exports (flat_map export_at (occurrences_in k d.declaration)) _ rest.exports_are;
}

pub globals-long : (k : Known) (at : At) (item : ℕ) (d : Declaration) → length (globals_of k at item d) ≡ globals_in d
globals-long k at item (variables vs) = bounds-long at item k.scope k.globals k.before vs
globals-long k at item (constant name_at n is) = refl
globals-long k at item (predicate is_pred name_at n vs e) = refl
globals-long k at item (included text_at file) = refl
globals-long k at item (default_restriction o n e) = refl
globals-long k at item (formula e) = refl
globals-long k at item (goal name_at title e) = refl

predicates-long : (k : Known) (d : Declaration) → length k.scope.readings + length (predicates_of k d) ≡ length (scope_after k d).readings
predicates-long k (variables vs) = add-zero (length k.scope.readings) ∙ sym (ap length (readings-same k.scope k.globals vs))
predicates-long k (constant at n is) = add-zero (length k.scope.readings)
predicates-long k (predicate is_pred at n vs e) = omega arith
predicates-long k (included text_at file) = add-zero (length k.scope.readings)
predicates-long k (default_restriction o n e) =
    let more = with_readings (occurrences_in k (default_restriction o n e)) k.scope in
    let one : length k.scope.readings + length (predicates_of k (default_restriction o n e)) ≡ length more.readings = omega arith in
    one ∙ sym (ap length (default-readings more o (length k.scope.readings)))
predicates-long k (formula e) = add-zero (length k.scope.readings)
predicates-long k (goal name_at title e) = add-zero (length k.scope.readings)

rest-next : (tables : Tables) (gs : List TypedGlobal) (k : Known) (item : ℕ) (d : Declared) (ds : List Declared) → Rest tables gs k item (d ∷ ds) →
    Rest tables gs (after_declaration k d.declaration) (item + 1) ds
rest-next tables gs k item d ds rest =
    let next = after_declaration k d.declaration in
    let uses = counted k.before next.before (occurrences_in k d.declaration) (counts-declaration k d.declaration) in
    let G = collected (λ k item d. globals_of k d.at item d.declaration) next (item + 1) ds in
    let P = collected (λ k item d. predicates_of k d.declaration) next (item + 1) ds in
    let I = collected (λ k item d. flat_map import_at (occurrences_in k d.declaration)) next (item + 1) ds in
    let X = collected (λ k item d. flat_map export_at (occurrences_in k d.declaration)) next (item + 1) ds in
    record {
      globals_are = subst (λ n. Stand (map (λ g. Some g) gs) n G) (ap (λ n. k.globals + n) (globals-long k d.at item d.declaration))
          (stand-back (map (λ g. Some g) gs) k.globals (globals_of k d.at item d.declaration) G rest.globals_are);
      predicates_are = subst (λ n. Stand (map (λ p. Some p) tables.predicates) n P) (predicates-long k d.declaration)
          (stand-back (map (λ p. Some p) tables.predicates) (length k.scope.readings) (predicates_of k d.declaration) P rest.predicates_are);
      imports_are = subst (λ n. Stand tables.imports n I) (sym uses.0)
          (stand-back tables.imports k.before.imports (flat_map import_at (occurrences_in k d.declaration)) I rest.imports_are);
      exports_are = subst (λ n. Stand tables.exports n X) (sym uses.1)
          (stand-back tables.exports k.before.exports (flat_map export_at (occurrences_in k d.declaration)) X rest.exports_are);
    }

-- all that the next declarations give is well numbered
pub record AllNumbered (tables : Tables) (seen : List Variable) (k : Known) (item : ℕ) (ds : List Declared) : Type 0 where
  pub globals_are : Each (If (λ (g : TypedGlobal). IsNumberedRestriction tables (length tables.predicates) seen g.restriction))
      (collected (λ k item d. globals_of k d.at item d.declaration) k item ds)
  pub predicates_are : EachPredicate tables (length k.scope.readings) seen (collected (λ k item d. predicates_of k d.declaration) k item ds)
  pub formulas_are : Each (If (λ (f : TypedFormula). IsNumbered tables (length tables.predicates) seen f.formula))
      (collected (λ k item d. formulas_of k d.at item d.declaration) k item ds)

each-predicate : (tables : Tables) (p : ℕ) (seen : List Variable) (xs ys : List (Option Predicate)) →
    EachPredicate tables p seen xs → EachPredicate tables (p + length xs) seen ys → EachPredicate tables p seen (xs ++ ys)
each-predicate tables p seen [] ys h k = subst (λ n. EachPredicate tables n seen ys) (add-zero p) k
each-predicate tables p seen (x ∷ xs) ys h k =
    let same : p + length (x ∷ xs) ≡ p + 1 + length xs = omega arith in
    (h.0, each-predicate tables (p + 1) seen xs ys h.1 (subst (λ n. EachPredicate tables n seen ys) same k))

pub all-numbered : (tables : Tables) (gs : List TypedGlobal) (seen : List Variable) (k : Known) (item : ℕ) (ds : List Declared) → AreSeen seen gs →
    Ready tables seen k → Rest tables gs k item ds → AllNumbered tables seen k item ds
all-numbered tables gs seen k item [] are ready rest = record { globals_are = tt; predicates_are = tt; formulas_are = tt }
all-numbered tables gs seen k item (d ∷ ds) are ready rest =
    let here = rest-here tables gs k item d ds rest in
    let next = after_declaration k d.declaration in
    let more = all-numbered tables gs seen next (item + 1) ds are (ready-next tables gs seen k d.at item d.declaration are ready here) (rest-next tables gs k item d ds rest) in
    record {
      globals_are = each-append (If (λ (g : TypedGlobal). IsNumberedRestriction tables (length tables.predicates) seen g.restriction))
          (globals_of k d.at item d.declaration) (collected (λ k item d. globals_of k d.at item d.declaration) next (item + 1) ds)
          (globals-numbered tables gs seen k d.at item d.declaration are ready here) more.globals_are;
      predicates_are = each-predicate tables (length k.scope.readings) seen
          (predicates_of k d.declaration) (collected (λ k item d. predicates_of k d.declaration) next (item + 1) ds)
          (predicates-numbered tables gs seen k d.at item d.declaration ready here)
          (subst (λ n. EachPredicate tables n seen (collected (λ k item d. predicates_of k d.declaration) next (item + 1) ds))
          (sym (predicates-long k d.declaration)) more.predicates_are);
      formulas_are = each-append (If (λ (f : TypedFormula). IsNumbered tables (length tables.predicates) seen f.formula))
          (formulas_of k d.at item d.declaration) (collected (λ k item d. formulas_of k d.at item d.declaration) next (item + 1) ds)
          (formulas-numbered tables gs seen k d.at item d.declaration ready here) more.formulas_are;
    }
