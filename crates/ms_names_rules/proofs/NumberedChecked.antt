-- A checked source that is typed is well numbered.
use Rattle.std.proofs.Common.{◌≡◌, ℕ, zero, suc, ◌+◌, ◌≤◌, inl, inr, List, [], ◌∷◌, length, map, Some, None, refl, sym, subst, ap, ◌∙◌, arith, length-append}
use Rattle.std.proofs.lemmas.List.{length-map}
use Rattle.std.specs.Prelude.{flat_map, slice_get}
use Rattle.std.specs.Option.{option_map}
use Rattle.ms_logic.specs.declared.checked.Checked.{Checked}
use Rattle.ms_logic.specs.declared.checked.Global.{Global}
use Rattle.ms_logic.specs.declared.checked.Placed as placed
use Rattle.ms_logic.specs.declared.checked.Predicate as code
use Rattle.ms_logic.specs.declared.source.Loaded.{Loaded}
use Rattle.ms_logic.specs.Assignment.{Variable}
use Rattle.ms_logic.specs.Tree.{Restriction}
use Rattle.ms_logic.specs.View.{formula_of, globals_from, predicate_of, restriction}
use Rattle.ms_names_rules.specs.Declarations.{Known, after_declaration, at_the_beginning, count_of_globals, first_fault_of, globals_in}
use Rattle.ms_names_rules.specs.Numbers.{CountUp, exports_in, exports_in_predicate, exports_in_restriction, Tables, IsNew, Sees, IsNumbered, IsNumberedRestriction, AreNumberedPredicates, IsWellNumbered, globals_seen, tables_of}
use Rattle.ms_logic.specs.Lists.{Each}
use Rattle.ms_parse_grammar.specs.Tree.{Declared}
use Rattle.ms_names_rules.specs.TypedSource.{IsTyped, exports_of_source, TypedFormula, TypedGlobal, collected, global_of, globals_of, placed_formula_of}
use Rattle.ms_parse_grammar.specs.View.{declared_of}
use Rattle.ms_names_rules.proofs.ExportNumbers.{count-append}
use Rattle.ms_names_rules.proofs.ExportedSource.{FormulasCount, exported-rest}
use Rattle.ms_names_rules.proofs.Fitting.{If}
use Rattle.ms_names_rules.proofs.NumberedDeclarations.{AreSeen, EachPredicate, Ready}
use Rattle.ms_names_rules.proofs.NumberedSource.{Rest, all-numbered, globals-long}
use Rattle.ms_names_rules.proofs.Numbering.{Stand}
use Rattle.ms_names_rules.proofs.Standing.{stand-all}

-- lists of what is there

somes : {A B : Type 0} (f : A → B) (xs : List A) → map (λ y. Some y) (map f xs) ≡ map (λ x. Some (f x)) xs
somes f [] = refl
somes f (x ∷ xs) = ap (λ ys. Some (f x) ∷ ys) (somes f xs)

each-kept : {A B : Type 0} (P : B → Type 0) (f : A → B) (xs : List A) → Each (If P) (map (λ x. Some (f x)) xs) → Each (λ x. P (f x)) xs
each-kept P f [] h = tt
each-kept P f (x ∷ xs) h = (h.0, each-kept P f xs h.1)

predicates-kept : (tables : Tables) (p : ℕ) (seen : List Variable) (ps : List code.Predicate) →
    EachPredicate tables p seen (map (λ q. Some (predicate_of q)) ps) → AreNumberedPredicates tables p seen (map predicate_of ps)
predicates-kept tables p seen [] h = tt
predicates-kept tables p seen (q ∷ ps) h = (h.0, predicates-kept tables (p + 1) seen ps h.1)

-- globals

abbrev variable_of : ℕ → TypedGlobal → Variable
variable_of n g = record { name = n; order = g.order }

from-below : (n m : ℕ) (gs : List Global) → n + length gs ≤ m → IsNew (map (λ d. d.variable) (globals_from n gs)) m
from-below n m [] le = tt
from-below n m (g ∷ gs) le = (omega arith, from-below (n + 1) m gs (omega arith))

same-variable : (n m : ℕ) (g h : TypedGlobal) → n ≡ m → g ≡ h → variable_of n g ≡ variable_of m h
same-variable n m g h same is = λ i. variable_of (same i) (is i)

from-seen : (n i : ℕ) (gs : List Global) (g : TypedGlobal) → slice_get (map global_of gs) i ≡ Some g → Sees (map (λ d. d.variable) (globals_from n gs)) (n + i) g.order
from-seen n i [] g h = absurd (cc)
from-seen n zero (first ∷ gs) g h = let is : global_of first ≡ g = cc in inl (same-variable n (n + zero) (global_of first) g (omega arith) is)
from-seen n (suc i) (first ∷ gs) g h =
    let same : n + 1 + i ≡ n + suc i = omega arith in
    inr (subst (λ x. Sees (map (λ d. d.variable) (globals_from (n + 1) gs)) x g.order) same (from-seen (n + 1) i gs g h))

all-seen : (gs : List Global) → AreSeen (map (λ d. d.variable) (globals_from 0 gs)) (map global_of gs)
all-seen gs = λ i g h.
    let same : 0 + i ≡ i = omega arith in
    subst (λ x. Sees (map (λ d. d.variable) (globals_from 0 gs)) x g.order) same (from-seen 0 i gs g h)

restrictions-kept : (P : Restriction → Type 0) (n : ℕ) (gs : List Global) → Each (λ g. P (restriction (option_map formula_of g.domain))) gs →
    Each (λ d. P d.restriction) (globals_from n gs)
restrictions-kept P n [] h = tt
restrictions-kept P n (g ∷ gs) h = (h.0, restrictions-kept P (n + 1) gs h.1)

collected-long : (k : Known) (item : ℕ) (ds : List Declared) → length (collected (λ k item d. globals_of k d.at item d.declaration) k item ds) ≡ count_of_globals ds
collected-long k item [] = refl
collected-long k item (d ∷ ds) =
    let here = globals-long k d.at item d.declaration in
    let rest = collected-long (after_declaration k d.declaration) (item + 1) ds in
    length-append (globals_of k d.at item d.declaration) (collected (λ k item d. globals_of k d.at item d.declaration) (after_declaration k d.declaration) (item + 1) ds)
    ∙ (ap (λ n. n + length (collected (λ k item d. globals_of k d.at item d.declaration) (after_declaration k d.declaration) (item + 1) ds)) here
    ∙ ap (λ n. globals_in d.declaration + n) rest)

formulas-kept : (n m : ℕ) (fs : List placed.Placed) → FormulasCount n (map (λ f. Some (placed_formula_of f)) fs) m →
    CountUp n (flat_map (λ f. exports_in (formula_of f.formula)) fs) m
formulas-kept n m [] h = h
formulas-kept n m (f ∷ fs) h =
    count-append n h.0 m (exports_in (formula_of f.formula)) (flat_map (λ f. exports_in (formula_of f.formula)) fs) h.1 (formulas-kept h.0 m fs h.2)

none-kept : (ps : List code.Predicate) → Each (If (λ p. exports_in_predicate p ≡ [])) (map (λ q. Some (predicate_of q)) ps) →
    Each (λ p. exports_in_predicate p ≡ []) (map predicate_of ps)
none-kept [] h = tt
none-kept (p ∷ ps) h = (h.0, none-kept ps h.1)

-- the source

pub well-numbered : (loaded : Loaded) (checked : Checked) → IsTyped loaded checked →
    first_fault_of loaded.mode (map declared_of loaded.items) ≡ None → IsWellNumbered checked
well-numbered loaded checked typed right =
    let ds = map declared_of loaded.items in
    let k = at_the_beginning loaded.mode ds in
    let tables = tables_of checked in
    let seen = globals_seen checked in
    let gs = map global_of checked.globals in
    let globals_stand = somes global_of checked.globals ∙ typed.globals_are in
    let predicates_stand = somes predicate_of checked.predicates ∙ typed.predicates_are in
    let count : length checked.globals ≡ count_of_globals ds =
    sym (length-map checked.globals (λ g. Some (global_of g))) ∙ (ap length typed.globals_are ∙ collected-long k 0 ds) in
    let ready : Ready tables seen k = record {
      fits = record { names = tt; numbers = tt; sets = tt; falls = tt };
      new = from-below 0 (count_of_globals ds) checked.globals (omega arith);
      below = tt;
      within = omega arith;
    } in
    let rest : Rest tables gs k 0 ds = record {
      globals_are = subst (λ xs. Stand (map (λ g. Some g) gs) 0 xs) globals_stand (stand-all (map (λ g. Some g) gs));
      predicates_are = subst (λ xs. Stand (map (λ p. Some p) tables.predicates) 0 xs) predicates_stand (stand-all (map (λ p. Some p) tables.predicates));
      imports_are = subst (λ xs. Stand checked.imports 0 xs) typed.imports_are (stand-all checked.imports);
      exports_are = subst (λ xs. Stand checked.exports 0 xs) typed.exports_are (stand-all checked.exports);
    } in
    let exported = exported-rest k 0 ds right in
    let uses = ap length typed.exports_are in
    let many : 0 + length (exports_of_source loaded.mode ds) ≡ length checked.exports = omega (arith, uses) in
    let all = all-numbered tables gs seen k 0 ds (all-seen checked.globals) ready rest in
    record {
      predicates = predicates-kept tables 0 seen checked.predicates
          (subst (λ xs. EachPredicate tables 0 seen xs) (sym typed.predicates_are) all.predicates_are);
      globals = restrictions-kept (λ r. IsNumberedRestriction tables (length tables.predicates) seen r) 0 checked.globals
          (each-kept (λ (g : TypedGlobal). IsNumberedRestriction tables (length tables.predicates) seen g.restriction) global_of checked.globals
          (subst (λ xs. Each (If (λ (g : TypedGlobal). IsNumberedRestriction tables (length tables.predicates) seen g.restriction)) xs) (sym typed.globals_are) all.globals_are));
      formulas = each-kept (λ (f : TypedFormula). IsNumbered tables (length tables.predicates) seen f.formula) placed_formula_of checked.formulas
          (subst (λ xs. Each (If (λ (f : TypedFormula). IsNumbered tables (length tables.predicates) seen f.formula)) xs) (sym typed.formulas_are) all.formulas_are);
      exports = formulas-kept 0 (length checked.exports) checked.formulas
          (subst (λ m. FormulasCount 0 (map (λ f. Some (placed_formula_of f)) checked.formulas) m) many
          (subst (λ xs. FormulasCount 0 xs (0 + length (exports_of_source loaded.mode ds))) (sym typed.formulas_are) exported.formulas_are));
      no_exports_in_predicates = none-kept checked.predicates
          (subst (λ xs. Each (If (λ p. exports_in_predicate p ≡ [])) xs) (sym typed.predicates_are) exported.predicates_are);
      no_exports_in_globals = restrictions-kept (λ r. exports_in_restriction r ≡ []) 0 checked.globals
          (each-kept (λ (g : TypedGlobal). exports_in_restriction g.restriction ≡ []) global_of checked.globals
          (subst (λ xs. Each (If (λ (g : TypedGlobal). exports_in_restriction g.restriction ≡ [])) xs) (sym typed.globals_are) exported.globals_are));
    }
