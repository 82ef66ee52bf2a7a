-- What a declaration gives is well numbered, where the tables hold it.
use Rattle.std.proofs.Common.{◌≡◌, ℕ, ◌+◌, ◌≤◌, inl, false, List, [], ◌∷◌, length, map, Option, Some, None, refl, sym, subst, ◌∙◌, arith, ap, append_assoc, ◌++◌}
use Rattle.std.specs.Prelude.{flat_map, slice_get}
use Rattle.std.specs.Option.{option_map}
use Rattle.ms_list.specs.declared.at.At.{At}
use Rattle.ms_logic.specs.declared.mode.Order.{Order}
use Rattle.ms_logic.specs.declared.mode.Order.TheVariants.{One, Two}
use Rattle.ms_logic.specs.Assignment.{Variable}
use Rattle.ms_logic.specs.Tree as tree
use Rattle.ms_logic.specs.Tree.{Form, Restriction, Predicate}
use Rattle.ms_names_rules.specs.declared.meaning.Meaning.{Meaning}
use Rattle.ms_names_rules.specs.declared.meaning.Meaning.TheVariants as meaning
use Rattle.ms_names_rules.specs.Scope.{Bytes, Scope, bind, count_of_bounds, under_bounds, without_exports}
use Rattle.ms_parse_grammar.specs.Tree.{Expression, Variables, no_variables, and_variable, Domain, unrestricted, restricted, Declaration, variables, constant, predicate, included, default_restriction, formula, goal}
use Rattle.ms_names_rules.specs.Declarations.{Known, before_after, occurrences_in, occurrences_in_default, occurrences_in_predicate}
use Rattle.ms_names_rules.specs.Before.{Before, with_names, after, after_bounds}
use Rattle.ms_names_rules.specs.inner.Binder.{restricted_variable, restricted_variables, restriction_in, predicate_with}
use Rattle.ms_names_rules.specs.Numbers.{Tables, IsNew, Sees, seeing, HasParameters, IsDefault, IsNumbered, IsNumberedArgument, IsNumberedRestriction, AreNumberedParameters}
use Rattle.ms_logic.specs.Lists.{Each}
use Rattle.ms_names_rules.specs.Order.{formula_wanted}
use Rattle.ms_names_rules.specs.Occurrence.{occurrences, inside_bounds, inside_domain}
use Rattle.ms_names_rules.specs.Typed.{formula_in, typed, typed_domain}
use Rattle.ms_names_rules.specs.TypedSource.{TypedFormula, TypedGlobal, formulas_of, globals_of, globals_of_bounds, parameters_of_bounds, predicates_of, typed_default, typed_predicate}
use Rattle.ms_names_rules.specs.Uses.{export_at, import_at}
use Rattle.ms_names_rules.proofs.Declaring.{restricted-same}
use Rattle.ms_names_rules.proofs.Exports.{typed-same, under_bounds-same}
use Rattle.ms_names_rules.proofs.Fitting.{EntryFits, Fits, If, IsBelow, MeaningFits, below-more, each-back, each-front, each-weaker, fits-bind, fits-bounds, fits-without, if-one, if-weaker, new-above, new-bounds, new-next, seeing_bounds, each-append}
use Rattle.ms_names_rules.proofs.Growth.{Counts, counts, counts-append, counts-bounds, counts-names, grows-bounds}
use Rattle.ms_names_rules.proofs.Lists.{parameters-all}
use Rattle.ms_names_rules.proofs.Numbered.{domain-all, numbered}
use Rattle.ms_names_rules.proofs.Numbering.{Stand, UsesStand, formula-numbered, if-two}
use Rattle.ms_names_rules.proofs.Standing.{get-some, uses-stand, stand-back, stand-front}
use Rattle.std.proofs.lemmas.List.{append-nil, length-append}

-- each global is seen under its place
abbrev pub AreSeen : List Variable → List TypedGlobal → Type 0
AreSeen seen gs = (n : ℕ) (g : TypedGlobal) → slice_get gs n ≡ Some g → Sees seen n g.order

-- before a declaration: the scope and what stands before fit the tables and the globals
pub record Ready (tables : Tables) (seen : List Variable) (k : Known) : Type 0 where
  pub fits : Fits tables (length k.scope.readings) seen k.scope
  pub new : IsNew seen k.before.next
  pub below : Each (IsBelow k.globals) k.scope.names
  pub within : length k.scope.readings ≤ length tables.predicates

-- what a declaration gives stands in the tables, and its globals among all globals
pub record Stands (tables : Tables) (gs : List TypedGlobal) (k : Known) (at : At) (item : ℕ) (d : Declaration) : Type 0 where
  pub globals_are : Stand (map (λ g. Some g) gs) k.globals (globals_of k at item d)
  pub predicates_are : Stand (map (λ p. Some p) tables.predicates) (length k.scope.readings) (predicates_of k d)
  pub imports_are : Stand tables.imports k.before.imports (flat_map import_at (occurrences_in k d))
  pub exports_are : Stand tables.exports k.before.exports (flat_map export_at (occurrences_in k d))

-- scopes that know more predicates

parameters-weaker : (tables : Tables) (bound more p : ℕ) (orders : List Order) → bound ≤ more → HasParameters tables bound p orders → HasParameters tables more p orders
parameters-weaker tables bound more p orders le h = let below = h.0 in (omega arith, h.1)

default-weaker : (tables : Tables) (bound more : ℕ) (o : Order) → bound ≤ more → (p : ℕ) → IsDefault tables bound p o → IsDefault tables more p o
default-weaker tables bound more o le p h = let below = h.0 in (omega arith, h.1)

meaning-weaker : (tables : Tables) (bound more : ℕ) (seen : List Variable) (m : Meaning) → bound ≤ more → MeaningFits tables bound seen m → MeaningFits tables more seen m
meaning-weaker tables bound more seen (meaning.Variable x o) le h = h
meaning-weaker tables bound more seen (meaning.Constant value) le h = tt
meaning-weaker tables bound more seen (meaning.Predicate p parameters) le h = parameters-weaker tables bound more p parameters le h

pub fits-weaker : (tables : Tables) (bound more : ℕ) (seen : List Variable) (s : Scope) → bound ≤ more → Fits tables bound seen s → Fits tables more seen s
fits-weaker tables bound more seen s le fits = record {
  names = each-weaker (EntryFits tables bound seen) (EntryFits tables more seen) s.names (λ entry h. meaning-weaker tables bound more seen entry.1 le h) fits.names;
  numbers = if-weaker (λ p. IsDefault tables bound p One) (λ p. IsDefault tables more p One) s.default_of_numbers (default-weaker tables bound more One le) fits.numbers;
  sets = if-weaker (λ p. IsDefault tables bound p Two) (λ p. IsDefault tables more p Two) s.default_of_sets (default-weaker tables bound more Two le) fits.sets;
  falls = fits.falls;
}

-- the imports and exports of a declaration

pub counts-declaration : (k : Known) (d : Declaration) → Counts k.before (occurrences_in k d) (before_after k.before d)
counts-declaration k (variables vs) = counts-bounds k.scope k.globals k.before vs
counts-declaration k (constant at n is) = (refl, refl)
counts-declaration k (predicate is_pred at n vs e) =
    let b = k.before in
    let here = with_names b (count_of_bounds vs) in
    let outer = without_exports k.scope in
    let inner = under_bounds outer b.next vs in
    counts-append b (after_bounds here vs) (after (after_bounds here vs) e) (inside_bounds outer b.next here vs) (occurrences inner (after_bounds here vs) formula_wanted e)
    (counts-names b (count_of_bounds vs) (after_bounds here vs) (inside_bounds outer b.next here vs) (counts-bounds outer b.next here vs))
    (counts inner (after_bounds here vs) formula_wanted e)
counts-declaration k (included text_at file) = (refl, refl)
counts-declaration k (default_restriction o n e) =
    let here = with_names k.before 1 in
    let inner = bind n (meaning.Variable k.before.next o) (without_exports k.scope) in
    counts-names k.before 1 (after here e) (occurrences inner here formula_wanted e) (counts inner here formula_wanted e)
counts-declaration k (formula e) = counts k.scope k.before formula_wanted e
counts-declaration k (goal name_at title e) = counts k.scope k.before formula_wanted e

uses-here : (tables : Tables) (gs : List TypedGlobal) (k : Known) (at : At) (item : ℕ) (d : Declaration) → Stands tables gs k at item d →
    Each (UsesStand tables) (occurrences_in k d)
uses-here tables gs k at item d here =
    uses-stand tables k.before (before_after k.before d) (occurrences_in k d) (counts-declaration k d) here.imports_are here.exports_are

-- formulas

pub formulas-numbered : (tables : Tables) (gs : List TypedGlobal) (seen : List Variable) (k : Known) (at : At) (item : ℕ) (d : Declaration) →
    Ready tables seen k → Stands tables gs k at item d →
    Each (If (λ (f : TypedFormula). IsNumbered tables (length tables.predicates) seen f.formula)) (formulas_of k at item d)
formulas-numbered tables gs seen k at item (variables vs) ready here = tt
formulas-numbered tables gs seen k at item (constant name_at n is) ready here = tt
formulas-numbered tables gs seen k at item (predicate is_pred name_at n vs e) ready here = tt
formulas-numbered tables gs seen k at item (included text_at file) ready here = tt
formulas-numbered tables gs seen k at item (default_restriction o n e) ready here = tt
formulas-numbered tables gs seen k at item (formula e) ready here =
    let bound = length tables.predicates in (
      if-one (IsNumbered tables bound seen) (λ (f : TypedFormula). IsNumbered tables bound seen f.formula)
          (λ form. record { at = at; item = item; title = None; formula = form }) (formula_in (typed k.scope k.before e)) (λ f h. h)
          (formula-numbered tables bound seen (typed k.scope k.before e)
          (numbered tables bound seen k.scope k.before formula_wanted e (fits-weaker tables (length k.scope.readings) bound seen k.scope ready.within ready.fits) ready.new
          (uses-here tables gs k at item (formula e) here))),
      tt,
    )
formulas-numbered tables gs seen k at item (goal name_at title e) ready here =
    let bound = length tables.predicates in (
      if-one (IsNumbered tables bound seen) (λ (f : TypedFormula). IsNumbered tables bound seen f.formula)
          (λ form. record { at = at; item = item; title = Some title; formula = form }) (formula_in (typed k.scope k.before e)) (λ f h. h)
          (formula-numbered tables bound seen (typed k.scope k.before e)
          (numbered tables bound seen k.scope k.before formula_wanted e (fits-weaker tables (length k.scope.readings) bound seen k.scope ready.within ready.fits) ready.new
          (uses-here tables gs k at item (goal name_at title e) here))),
      tt,
    )

-- globals

-- the order of a global that stands at a place
global-seen : (seen : List Variable) (gs : List TypedGlobal) (at : At) (item x : ℕ) (o : Order) (n : Bytes) (r : Option Restriction) → AreSeen seen gs →
    slice_get (map (λ g. Some g) gs) x ≡ Some (option_map (λ restriction. record { at = at; item = item; order = o; name = n; restriction = restriction }) r) →
    Sees seen x o
global-seen seen gs at item x o n None are h =
    let found = get-some gs x None h in
    let is = found.2 in
    absurd (cc)
global-seen seen gs at item x o n (Some r) are h =
    let g : TypedGlobal = record { at = at; item = item; order = o; name = n; restriction = r } in
    let found = get-some gs x (Some g) h in
    let is = found.2 in
    let same : g ≡ found.0 = cc in
    subst (λ (there : TypedGlobal). Sees seen x there.order) (sym same) (are x found.0 found.1)

-- with one more global, whose number is above all before it
global-fits : (tables : Tables) (bound : ℕ) (seen : List Variable) (s : Scope) (x : ℕ) (o : Order) (n : Bytes) → Sees seen x o → Each (IsBelow x) s.names →
    Fits tables bound seen s → Fits tables bound seen (bind n (meaning.Variable x o) s)
global-fits tables bound seen s x o n sees below fits = record {
  names = (sees, fits.names);
  numbers = fits.numbers;
  sets = fits.sets;
  falls = (below, fits.falls);
}

global-below : (s : Scope) (x : ℕ) (o : Order) (n : Bytes) → Each (IsBelow x) s.names → Each (IsBelow (x + 1)) (bind n (meaning.Variable x o) s).names
global-below s x o n below = (omega arith, each-weaker (IsBelow x) (IsBelow (x + 1)) s.names (below-more x (x + 1) (omega arith)) below)

pub globals-below : (s : Scope) (x : ℕ) (vs : Variables) → Each (IsBelow x) s.names → Each (IsBelow (x + count_of_bounds vs)) (under_bounds s x vs).names
globals-below s x no_variables below = each-weaker (IsBelow x) (IsBelow (x + 0)) s.names (below-more x (x + 0) (omega arith)) below
globals-below s x (and_variable vs at o n d) below =
    let y = x + count_of_bounds vs in
    let same : y + 1 ≡ x + count_of_bounds (and_variable vs at o n d) = omega arith in
    subst (λ z. Each (IsBelow z) (under_bounds s x (and_variable vs at o n d)).names) same (global-below (under_bounds s x vs) y o n (globals-below s x vs below))

pub bounds-long : (at : At) (item : ℕ) (s : Scope) (x : ℕ) (b : Before) (vs : Variables) → length (globals_of_bounds at item s x b vs) ≡ count_of_bounds vs
bounds-long at item s x b no_variables = refl
bounds-long at item s x b (and_variable vs name_at o n d) =
    let rest = bounds-long at item s x b vs in
    length-append (globals_of_bounds at item s x b vs) _ ∙ ap (λ k. k + 1) rest

-- the last of some globals stands under its number
last-stands : (gs : List TypedGlobal) (at : At) (item : ℕ) (s : Scope) (x : ℕ) (b : Before) (vs : Variables) (last : Option TypedGlobal) →
    Stand (map (λ g. Some g) gs) x (globals_of_bounds at item s x b vs ++ last ∷ []) → slice_get (map (λ g. Some g) gs) (x + count_of_bounds vs) ≡ Some last
last-stands gs at item s x b vs last stand =
    let there = stand-back (map (λ g. Some g) gs) x (globals_of_bounds at item s x b vs) (last ∷ []) stand in
    subst (λ n. slice_get (map (λ g. Some g) gs) (x + n) ≡ Some last) (bounds-long at item s x b vs) there.0

pub globals-fit : (tables : Tables) (bound : ℕ) (seen : List Variable) (gs : List TypedGlobal) (at : At) (item : ℕ) (s : Scope) (x : ℕ) (b : Before) (vs : Variables) → AreSeen seen gs →
    Stand (map (λ g. Some g) gs) x (globals_of_bounds at item s x b vs) → Each (IsBelow x) s.names → Fits tables bound seen s → Fits tables bound seen (under_bounds s x vs)
globals-fit tables bound seen gs at item s x b no_variables are stand below fits = fits
globals-fit tables bound seen gs at item s x b (and_variable vs name_at o n d) are stand below fits =
    let y = x + count_of_bounds vs in
    let r = typed_domain (under_bounds s x (and_variable vs name_at o n d)) (after_bounds b vs) o y d in
    let sees = global-seen seen gs at item y o n r are (last-stands gs at item s x b vs _ stand) in
    global-fits tables bound seen (under_bounds s x vs) y o n sees (globals-below s x vs below)
    (globals-fit tables bound seen gs at item s x b vs are (stand-front (map (λ g. Some g) gs) x (globals_of_bounds at item s x b vs) _ stand) below fits)

bounds-numbered : (tables : Tables) (bound : ℕ) (seen : List Variable) (gs : List TypedGlobal) (at : At) (item : ℕ) (s : Scope) (x : ℕ) (b : Before) (vs : Variables) → AreSeen seen gs →
    Stand (map (λ g. Some g) gs) x (globals_of_bounds at item s x b vs) → Each (IsBelow x) s.names → Fits tables bound seen s → IsNew seen b.next → Each (UsesStand tables) (inside_bounds s x b vs) →
    Each (If (λ (g : TypedGlobal). IsNumberedRestriction tables bound seen g.restriction)) (globals_of_bounds at item s x b vs)
bounds-numbered tables bound seen gs at item s x b no_variables are stand below fits new uses = tt
bounds-numbered tables bound seen gs at item s x b (and_variable vs name_at o n d) are stand below fits new uses =
    let y = x + count_of_bounds vs in
    let begin = after_bounds b vs in
    let inner = under_bounds s x (and_variable vs name_at o n d) in
    let sees = global-seen seen gs at item y o n (typed_domain inner begin o y d) are (last-stands gs at item s x b vs _ stand) in
    let fit = globals-fit tables bound seen gs at item s x b (and_variable vs name_at o n d) are stand below fits in
    let before = inside_bounds s x b vs in
    let here = inside_domain (without_exports inner) begin d in
    each-append (If (λ (g : TypedGlobal). IsNumberedRestriction tables bound seen g.restriction)) (globals_of_bounds at item s x b vs) _
    (bounds-numbered tables bound seen gs at item s x b vs are (stand-front (map (λ g. Some g) gs) x (globals_of_bounds at item s x b vs) _ stand) below fits new
    (each-front (UsesStand tables) before here uses)) (
      if-one (IsNumberedRestriction tables bound seen) (λ (g : TypedGlobal). IsNumberedRestriction tables bound seen g.restriction)
          (λ restriction. record { at = at; item = item; order = o; name = n; restriction = restriction }) (typed_domain inner begin o y d) (λ r h. h)
          (domain-all tables bound seen inner begin o y d fit (new-above seen b.next begin.next new (grows-bounds b vs)) sees (each-back (UsesStand tables) before here uses)),
      tt,
    )

pub globals-numbered : (tables : Tables) (gs : List TypedGlobal) (seen : List Variable) (k : Known) (at : At) (item : ℕ) (d : Declaration) → AreSeen seen gs →
    Ready tables seen k → Stands tables gs k at item d →
    Each (If (λ (g : TypedGlobal). IsNumberedRestriction tables (length tables.predicates) seen g.restriction)) (globals_of k at item d)
globals-numbered tables gs seen k at item (variables vs) are ready here =
    bounds-numbered tables (length tables.predicates) seen gs at item k.scope k.globals k.before vs are here.globals_are ready.below
    (fits-weaker tables (length k.scope.readings) (length tables.predicates) seen k.scope ready.within ready.fits) ready.new
    (uses-here tables gs k at item (variables vs) here)
globals-numbered tables gs seen k at item (constant name_at n is) are ready here = tt
globals-numbered tables gs seen k at item (predicate is_pred name_at n vs e) are ready here = tt
globals-numbered tables gs seen k at item (included text_at file) are ready here = tt
globals-numbered tables gs seen k at item (default_restriction o n e) are ready here = tt
globals-numbered tables gs seen k at item (formula e) are ready here = tt
globals-numbered tables gs seen k at item (goal name_at title e) are ready here = tt

-- predicates

-- parameters that are numbered with all that follow and each body, if these see them
abbrev TakesBody : Tables → ℕ → List Variable → List Variable → List tree.Declaration → Type 0
TakesBody tables bound seen wide ps =
    (more : List tree.Declaration) (body : Form) → AreNumberedParameters tables bound wide more body → AreNumberedParameters tables bound seen (ps ++ more) body

restriction-numbered : (tables : Tables) (bound : ℕ) (seen : List Variable) (s : Scope) (b : Before) (o : Order) (x : ℕ) (d : Domain) →
    Fits tables bound seen s → IsNew seen b.next → Sees seen x o → Each (UsesStand tables) (inside_domain (without_exports s) b d) →
    If (IsNumberedRestriction tables bound seen) (restriction_in false s b o x d)
restriction-numbered tables bound seen s b o x unrestricted fits new sees uses = tt
restriction-numbered tables bound seen s b o x (restricted e) fits new sees uses = domain-all tables bound seen s b o x (restricted e) fits new sees uses

parameters-numbered : (tables : Tables) (bound : ℕ) (seen : List Variable) (s : Scope) (x : ℕ) (b : Before) (vs : Variables) →
    Fits tables bound seen s → IsNew seen x → x + count_of_bounds vs ≤ b.next → Each (UsesStand tables) (inside_bounds s x b vs) →
    If (TakesBody tables bound seen (seeing_bounds x vs seen)) (restricted_variables false s x b vs)
parameters-numbered tables bound seen s x b no_variables fits new le uses = λ more body h. h
parameters-numbered tables bound seen s x b (and_variable vs at o n d) fits new le uses =
    let y = x + count_of_bounds vs in
    let begin = after_bounds b vs in
    let inner = under_bounds s x (and_variable vs at o n d) in
    let there = seeing_bounds x vs seen in
    let wide = seeing y o there in
    let before = inside_bounds s x b vs in
    let here = inside_domain (without_exports inner) begin d in
    let grown = grows-bounds b vs in
    if-two (TakesBody tables bound seen there) (IsNumberedRestriction tables bound wide) (TakesBody tables bound seen wide)
    (λ earlier r. earlier ++ restricted_variable y o r ∷ []) (restricted_variables false s x b vs) (restriction_in false inner begin o y d)
    (λ ps r h k more body last. subst (λ all. AreNumberedParameters tables bound seen all body) (sym (append_assoc ps (restricted_variable y o r ∷ []) more))
    (h (restricted_variable y o r ∷ more) body (new-bounds x y vs seen new (omega arith), k, last)))
    (parameters-numbered tables bound seen s x b vs fits new (omega (arith, le)) (each-front (UsesStand tables) before here uses))
    (restriction-numbered tables bound wide inner begin o y d (fits-bounds tables bound seen s x (and_variable vs at o n d) new fits)
    (new-bounds x begin.next (and_variable vs at o n d) seen new (omega (arith, le, grown))) (inl refl) (each-back (UsesStand tables) before here uses))

predicate-numbered : (tables : Tables) (bound : ℕ) (seen : List Variable) (s : Scope) (b : Before) (vs : Variables) (e : Expression) →
    Fits tables bound seen s → IsNew seen b.next → Each (UsesStand tables) (occurrences_in_predicate s b vs e) →
    If (λ (p : Predicate). AreNumberedParameters tables bound seen p.parameters p.body) (typed_predicate s b vs e)
predicate-numbered tables bound seen s b vs e fits new uses =
    let here = with_names b (count_of_bounds vs) in
    let end = after_bounds here vs in
    let outer = without_exports s in
    let inner = under_bounds outer b.next vs in
    let plain = under_bounds s b.next vs in
    let wide = seeing_bounds b.next vs seen in
    let before = inside_bounds outer b.next here vs in
    let within = occurrences inner end formula_wanted e in
    let own : restricted_variables false outer b.next here vs ≡ parameters_of_bounds s b.next here vs =
    restricted-same false outer s b.next here vs refl ∙ sym (parameters-all s b.next here vs) in
    if-two (TakesBody tables bound seen wide) (IsNumbered tables bound wide) (λ (p : Predicate). AreNumberedParameters tables bound seen p.parameters p.body)
    predicate_with (parameters_of_bounds s b.next here vs) (formula_in (typed plain end e)) (λ ps body h k. subst (λ all. AreNumberedParameters tables bound seen all body) (append-nil ps) (h [] body k))
    (subst (λ ps. If (TakesBody tables bound seen wide) ps) own
    (parameters-numbered tables bound seen outer b.next here vs (fits-without tables bound seen s fits) new (omega arith) (each-front (UsesStand tables) before within uses)))
    (formula-numbered tables bound wide (typed plain end e)
    (subst (λ a. If (IsNumberedArgument tables bound wide) a) (typed-same inner plain end e (under_bounds-same outer s b.next vs refl))
    (numbered tables bound wide inner end formula_wanted e (fits-bounds tables bound seen outer b.next vs new (fits-without tables bound seen s fits))
    (new-bounds b.next end.next vs seen new (grows-bounds here vs)) (each-back (UsesStand tables) before within uses))))

default-numbered : (tables : Tables) (bound : ℕ) (seen : List Variable) (s : Scope) (b : Before) (o : Order) (n : Bytes) (e : Expression) →
    Fits tables bound seen s → IsNew seen b.next → Each (UsesStand tables) (occurrences_in_default s b o n e) →
    If (λ (p : Predicate). AreNumberedParameters tables bound seen p.parameters p.body) (typed_default s b o n e)
default-numbered tables bound seen s b o n e fits new uses =
    let here = with_names b 1 in
    let outer = without_exports s in
    let inner = bind n (meaning.Variable b.next o) outer in
    let plain = bind n (meaning.Variable b.next o) s in
    let wide = seeing b.next o seen in
    if-one (IsNumbered tables bound wide) (λ (p : Predicate). AreNumberedParameters tables bound seen p.parameters p.body)
    (predicate_with (restricted_variable b.next o tree.unrestricted ∷ [])) (formula_in (typed plain here e)) (λ body h. (new, tt, h))
    (formula-numbered tables bound wide (typed plain here e)
    (subst (λ a. If (IsNumberedArgument tables bound wide) a) (typed-same inner plain here e refl)
    (numbered tables bound wide inner here formula_wanted e (fits-bind tables bound seen outer b.next o n new (fits-without tables bound seen s fits)) (new-next seen b.next o new) uses)))

-- predicates from a number on
abbrev pub EachPredicate : Tables → ℕ → List Variable → List (Option Predicate) → Type 0
EachPredicate tables p seen [] = Unit {0}
EachPredicate tables p seen (found ∷ more) =
    If (λ (known : Predicate). AreNumberedParameters tables p seen known.parameters known.body) found × EachPredicate tables (p + 1) seen more

pub predicates-numbered : (tables : Tables) (gs : List TypedGlobal) (seen : List Variable) (k : Known) (at : At) (item : ℕ) (d : Declaration) →
    Ready tables seen k → Stands tables gs k at item d → EachPredicate tables (length k.scope.readings) seen (predicates_of k d)
predicates-numbered tables gs seen k at item (variables vs) ready here = tt
predicates-numbered tables gs seen k at item (constant name_at n is) ready here = tt
predicates-numbered tables gs seen k at item (predicate is_pred name_at n vs e) ready here =
    (predicate-numbered tables (length k.scope.readings) seen k.scope k.before vs e ready.fits ready.new (uses-here tables gs k at item (predicate is_pred name_at n vs e) here), tt)
predicates-numbered tables gs seen k at item (included text_at file) ready here = tt
predicates-numbered tables gs seen k at item (default_restriction o n e) ready here =
    (default-numbered tables (length k.scope.readings) seen k.scope k.before o n e ready.fits ready.new (uses-here tables gs k at item (default_restriction o n e) here), tt)
predicates-numbered tables gs seen k at item (formula e) ready here = tt
predicates-numbered tables gs seen k at item (goal name_at title e) ready here = tt
