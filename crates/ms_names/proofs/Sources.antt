-- A check of a source, declaration by declaration: what is found and kept so far, and what the rest gives.
use Rattle.std.proofs.Common.{rules, ◌≡◌, ℕ, ◌+◌, Bool, true, false, List, [], ◌∷◌, ◌++◌, append_assoc, ◌⊎◌, inl, inr, Option, Some, None, refl, sym, ap, ◌∙◌, arith, length, map}
use Rattle.std.specs.Prelude.{flat_map}
use Rattle.std.specs.Option.{option_map}
use Rattle.std.proofs.lemmas.List.{append-nil, length-append}
use Rattle.ms_list.specs.declared.at.At.{At}
use Rattle.ms_edge.specs.declared.refusal.Refusal.{Refusal}
use Rattle.ms_edge.specs.declared.refusal.Refusal.TheVariants.{Memory}
use Rattle.ms_logic.specs.declared.mode.Order.{Order}
use Rattle.ms_logic.specs.Tree as tree
use Rattle.ms_logic.specs.Tree.{Form, Restriction}
use Rattle.ms_names_rules.specs.declared.fault.Fault.{Fault}
use Rattle.ms_names_rules.specs.Before.{Before, after_bounds}
use Rattle.ms_names_rules.specs.inner.Binder.{restricted_variable, restricted_variables}
use Rattle.ms_names_rules.specs.Declarations.{Known, after_declaration, faults_in, first_fault_from, globals_in, occurrences_in, or_later, title_in, Title}
use Rattle.ms_names_rules.specs.Fault.{first_fault}
use Rattle.ms_names_rules.specs.Scope.{Scope, count_of_bounds, Bytes, under_bounds}
use Rattle.ms_parse_grammar.specs.Tree.{Variables, no_variables, and_variable, Declaration, variables, constant, predicate, included, default_restriction, formula, goal, Declared}
use Rattle.ms_names_rules.specs.Typed.{both, typed_domain}
use Rattle.ms_names_rules.specs.TypedSource.{TypedFormula, TypedGlobal, collected, formulas_of, globals_of, globals_of_bounds, predicates_of}
use Rattle.ms_names_rules.specs.Uses.{export_at, import_at}
use Rattle.ms_names.specs.declared.progress.Progress.{Progress}
use Rattle.ms_names.specs.inner.Outcome.{Made, made_globals, made_predicate, made_formula, made_nothing, made_in}
use Rattle.ms_names.specs.inner.Progress.{IsAfter, IsFirstOf, IsNext, Keeps, bounds_in, globals_with, kept_formulas, kept_globals, kept_predicates, known}
use Rattle.ms_parse_grammar.specs.View.{variable_of, variables_behind, variables_of}
use Rattle.ms_names_rules.proofs.Standing.{counted}
use Rattle.ms_names.specs.inner.Progress.{listed_bounds}
use Rattle.ms_logic.specs.declared.source.Bound.{Bound, out-Bound}
use Rattle.ms_logic.specs.declared.source.Form.{the_lemmas}

-- globals

with-last : (at : At) (item : ℕ) (earlier : List tree.Declaration) (names : List (Order × Bytes)) (v : tree.Declaration) (o : Order) (n : Bytes) → length earlier ≡ length names →
    globals_with at item earlier names ++ Some (record { at = at; item = item; order = o; name = n; restriction = v.restriction }) ∷ []
    ≡ globals_with at item (earlier ++ v ∷ []) (names ++ (o, n) ∷ [])
with-last at item [] [] v o n same = refl
with-last at item [] (m ∷ names) v o n same = absurd (omega (arith, same))
with-last at item (w ∷ earlier) [] v o n same = absurd (omega (arith, same))
with-last at item (w ∷ earlier) ((p, m) ∷ names) v o n same =
    ap (λ rest. Some (record { at = at; item = item; order = p; name = m; restriction = w.restriction }) ∷ rest) (with-last at item earlier names v o n (omega (arith, same)))

globals-more : (at : At) (item y : ℕ) (o : Order) (n : Bytes) (names : List (Order × Bytes)) (gs : List (Option TypedGlobal))
    (before : Option (List tree.Declaration)) (r : Option Restriction) (made : List tree.Declaration) →
    both (λ earlier there. earlier ++ restricted_variable y o there ∷ []) before r ≡ Some made →
    ((earlier : List tree.Declaration) → before ≡ Some earlier → (gs ≡ globals_with at item earlier names) × (length earlier ≡ length names)) →
    (gs ++ option_map (λ restriction. record { at = at; item = item; order = o; name = n; restriction = restriction }) r ∷ [] ≡ globals_with at item made (names ++ (o, n) ∷ []))
    × (length made ≡ length (names ++ (o, n) ∷ []))
globals-more at item y o n names gs None r made e h = absurd (cc)
globals-more at item y o n names gs (Some earlier) None made e h = absurd (cc)
globals-more at item y o n names gs (Some earlier) (Some r) made e h =
    let v = restricted_variable y o r in
    let same : earlier ++ v ∷ [] ≡ made = cc in
    let there = h earlier refl in
    let long = there.1 in
    let first = length-append earlier (v ∷ []) in
    let second = length-append names ((o, n) ∷ []) in
    let both_long : length (earlier ++ v ∷ []) ≡ length (names ++ (o, n) ∷ []) = omega (arith, long, first, second) in (
      ap (λ all. all ++ Some (record { at = at; item = item; order = o; name = n; restriction = r }) ∷ []) there.0
          ∙ (with-last at item earlier names v o n there.1 ∙ ap (λ all. globals_with at item all (names ++ (o, n) ∷ [])) same),
      ap length (sym same) ∙ both_long,
    )

globals-restricted : (at : At) (item : ℕ) (s : Scope) (x : ℕ) (b : Before) (vs : Variables) (made : List tree.Declaration) →
    restricted_variables true s x b vs ≡ Some made → (globals_of_bounds at item s x b vs ≡ globals_with at item made (listed_bounds vs)) × (length made ≡ length (listed_bounds vs))
globals-restricted at item s x b no_variables made e =
    let none : [] ≡ made = cc in
    (ap (λ there. globals_with at item there []) none, ap length (sym none))
globals-restricted at item s x b (and_variable vs name_at o n d) made e =
    let y = x + count_of_bounds vs in
    globals-more at item y o n (listed_bounds vs) (globals_of_bounds at item s x b vs) (restricted_variables true s x b vs)
    (typed_domain (under_bounds s x (and_variable vs name_at o n d)) (after_bounds b vs) o y d) made e
    (λ earlier there. globals-restricted at item s x b vs earlier there)

pub globals_with-none : (at : At) (item : ℕ) (made : List tree.Declaration) → globals_with at item made [] ≡ []
globals_with-none at item [] = refl
globals_with-none at item (v ∷ made) = refl

-- the variables of the code by their orders and names

abbrev pub listed_bound : Bound → Order × Bytes
listed_bound v = ((out-Bound v).order, (out-Bound v).name)

variable-listed : (v : Bound) → ((variable_of v).order, (variable_of v).name) ≡ listed_bound v
variable-listed v = search (rules, the_lemmas)

listed-behind : (before : Variables) (vs : List Bound) → listed_bounds (variables_behind before (map variable_of vs)) ≡ listed_bounds before ++ map listed_bound vs
listed-behind before [] = sym (append-nil (listed_bounds before))
listed-behind before (v ∷ vs) =
    listed-behind (and_variable before (variable_of v).at (variable_of v).order (variable_of v).name (variable_of v).domain) vs
    ∙ (append_assoc (listed_bounds before) (((variable_of v).order, (variable_of v).name) ∷ []) (map listed_bound vs)
    ∙ ap (λ first. listed_bounds before ++ first ∷ map listed_bound vs) (variable-listed v))

pub listed-all : (vs : List Bound) → listed_bounds (variables_of vs) ≡ map listed_bound vs
listed-all vs = listed-behind no_variables vs

pub globals-counted : (d : Declaration) → globals_in d ≡ count_of_bounds (bounds_in d)
globals-counted (variables vs) = refl
globals-counted (constant at n is) = refl
globals-counted (predicate is_pred at n vs e) = refl
globals-counted (included text_at file) = refl
globals-counted (default_restriction o n e) = refl
globals-counted (formula e) = refl
globals-counted (goal name_at title e) = refl

-- what a declaration gives, by what was made of it

globals-made : (k : Known) (at : At) (item : ℕ) (d : Declaration) (made : List tree.Declaration) →
    made_globals (Some made) ≡ made_in k.scope k.globals k.before d → globals_of k at item d ≡ globals_with at item made (listed_bounds (bounds_in d))
globals-made k at item (variables vs) made e =
    let is : restricted_variables true k.scope k.globals k.before vs ≡ Some made = cc in
    (globals-restricted at item k.scope k.globals k.before vs made is).0
globals-made k at item (constant name_at n is) made e = absurd (cc)
globals-made k at item (predicate is_pred name_at n vs b) made e = absurd (cc)
globals-made k at item (included text_at file) made e = absurd (cc)
globals-made k at item (default_restriction o n b) made e = absurd (cc)
globals-made k at item (formula b) made e = absurd (cc)
globals-made k at item (goal name_at title b) made e = absurd (cc)

abbrev pub are_globals : Made → Bool
are_globals (made_globals vs) = true
are_globals (made_predicate p) = false
are_globals (made_formula f) = false
are_globals made_nothing = false

abbrev pub predicates_made : Made → List (Option tree.Predicate)
predicates_made (made_globals vs) = []
predicates_made (made_predicate p) = p ∷ []
predicates_made (made_formula f) = []
predicates_made made_nothing = []

abbrev pub formulas_made : At → ℕ → Option Title → Made → List (Option TypedFormula)
formulas_made at item title (made_globals vs) = []
formulas_made at item title (made_predicate p) = []
formulas_made at item title (made_formula f) =
    option_map (λ form. record { at = at; item = item; title = option_map (λ (t : Title). t.text) title; formula = form }) f ∷ []
formulas_made at item title made_nothing = []

no-globals-in : (k : Known) (at : At) (item : ℕ) (d : Declaration) →
    are_globals (made_in k.scope k.globals k.before d) ≡ false → globals_of k at item d ≡ []
no-globals-in k at item (variables vs) e = absurd (cc)
no-globals-in k at item (constant name_at n is) e = refl
no-globals-in k at item (predicate is_pred name_at n vs b) e = refl
no-globals-in k at item (included text_at file) e = refl
no-globals-in k at item (default_restriction o n b) e = refl
no-globals-in k at item (formula b) e = refl
no-globals-in k at item (goal name_at title b) e = refl

no-globals-made : (k : Known) (at : At) (item : ℕ) (d : Declaration) (made : Made) →
    are_globals made ≡ false → made ≡ made_in k.scope k.globals k.before d → globals_of k at item d ≡ []
no-globals-made k at item d made none e = no-globals-in k at item d (sym (ap are_globals e) ∙ none)

predicates-in : (k : Known) (d : Declaration) → predicates_made (made_in k.scope k.globals k.before d) ≡ predicates_of k d
predicates-in k (variables vs) = refl
predicates-in k (constant name_at n is) = refl
predicates-in k (predicate is_pred name_at n vs b) = refl
predicates-in k (included text_at file) = refl
predicates-in k (default_restriction o n b) = refl
predicates-in k (formula b) = refl
predicates-in k (goal name_at title b) = refl

predicates-made : (k : Known) (d : Declaration) (made : Made) →
    made ≡ made_in k.scope k.globals k.before d → predicates_made made ≡ predicates_of k d
predicates-made k d made e = ap predicates_made e ∙ predicates-in k d

formulas-in : (k : Known) (at : At) (item : ℕ) (d : Declaration) →
    formulas_made at item (title_in d) (made_in k.scope k.globals k.before d) ≡ formulas_of k at item d
formulas-in k at item (variables vs) = refl
formulas-in k at item (constant name_at n is) = refl
formulas-in k at item (predicate is_pred name_at n vs b) = refl
formulas-in k at item (included text_at file) = refl
formulas-in k at item (default_restriction o n b) = refl
formulas-in k at item (formula b) = refl
formulas-in k at item (goal name_at title b) = refl

formulas-made : (k : Known) (at : At) (item : ℕ) (d : Declaration) (made : Made) →
    made ≡ made_in k.scope k.globals k.before d → formulas_made at item (title_in d) made ≡ formulas_of k at item d
formulas-made k at item d made e = ap (formulas_made at item (title_in d)) e ∙ formulas-in k at item d

-- what is kept where a declaration gives nothing of a kind, or something

kept-none : {A : Type 0} (later earlier more : List A) → later ≡ earlier → more ≡ [] → later ≡ earlier ++ more
kept-none later earlier more same none = same ∙ (sym (append-nil earlier) ∙ ap (λ there. earlier ++ there) (sym none))

kept-more : {A : Type 0} (later earlier given more : List A) → later ≡ earlier ++ given → given ≡ more → later ≡ earlier ++ more
kept-more later earlier given more added is = added ∙ ap (λ there. earlier ++ there) is

pub keeps-globals : (earlier later : Progress) (d : Declared) (made : List tree.Declaration) →
    kept_globals later.globals ≡ kept_globals earlier.globals ++ globals_with d.at earlier.item made (listed_bounds (bounds_in d.declaration)) →
    later.predicates ≡ earlier.predicates → later.formulas ≡ earlier.formulas → Keeps earlier later d (made_globals (Some made))
keeps-globals earlier later d made added same_predicates same_formulas = record {
  globals_are = λ k e. kept-more (kept_globals later.globals) (kept_globals earlier.globals) _ _ added (sym (globals-made k d.at earlier.item d.declaration made e));
  predicates_are = λ k e. kept-none (kept_predicates later.predicates) (kept_predicates earlier.predicates) _
      (ap kept_predicates same_predicates) (sym (predicates-made k d.declaration (made_globals (Some made)) e));
  formulas_are = λ k e. kept-none (kept_formulas later.formulas) (kept_formulas earlier.formulas) _
      (ap kept_formulas same_formulas) (sym (formulas-made k d.at earlier.item d.declaration (made_globals (Some made)) e));
}

pub keeps-predicate : (earlier later : Progress) (d : Declared) (p : tree.Predicate) →
    kept_predicates later.predicates ≡ kept_predicates earlier.predicates ++ Some p ∷ [] →
    later.globals ≡ earlier.globals → later.formulas ≡ earlier.formulas → Keeps earlier later d (made_predicate (Some p))
keeps-predicate earlier later d p added same_globals same_formulas = record {
  globals_are = λ k e. kept-none (kept_globals later.globals) (kept_globals earlier.globals) _
      (ap kept_globals same_globals) (no-globals-made k d.at earlier.item d.declaration (made_predicate (Some p)) refl e);
  predicates_are = λ k e. kept-more (kept_predicates later.predicates) (kept_predicates earlier.predicates) _ _
      added (predicates-made k d.declaration (made_predicate (Some p)) e);
  formulas_are = λ k e. kept-none (kept_formulas later.formulas) (kept_formulas earlier.formulas) _
      (ap kept_formulas same_formulas) (sym (formulas-made k d.at earlier.item d.declaration (made_predicate (Some p)) e));
}

pub keeps-formula : (earlier later : Progress) (d : Declared) (f : Form) →
    kept_formulas later.formulas ≡ kept_formulas earlier.formulas
    ++ Some (record { at = d.at; item = earlier.item; title = option_map (λ (t : Title). t.text) (title_in d.declaration); formula = f }) ∷ [] →
    later.globals ≡ earlier.globals → later.predicates ≡ earlier.predicates → Keeps earlier later d (made_formula (Some f))
keeps-formula earlier later d f added same_globals same_predicates = record {
  globals_are = λ k e. kept-none (kept_globals later.globals) (kept_globals earlier.globals) _
      (ap kept_globals same_globals) (no-globals-made k d.at earlier.item d.declaration (made_formula (Some f)) refl e);
  predicates_are = λ k e. kept-none (kept_predicates later.predicates) (kept_predicates earlier.predicates) _
      (ap kept_predicates same_predicates) (sym (predicates-made k d.declaration (made_formula (Some f)) e));
  formulas_are = λ k e. kept-more (kept_formulas later.formulas) (kept_formulas earlier.formulas) _ _
      added (formulas-made k d.at earlier.item d.declaration (made_formula (Some f)) e);
}

pub keeps-nothing : (earlier later : Progress) (d : Declared) → later.globals ≡ earlier.globals → later.predicates ≡ earlier.predicates →
    later.formulas ≡ earlier.formulas → Keeps earlier later d made_nothing
keeps-nothing earlier later d same_globals same_predicates same_formulas = record {
  globals_are = λ k e. kept-none (kept_globals later.globals) (kept_globals earlier.globals) _
      (ap kept_globals same_globals) (no-globals-made k d.at earlier.item d.declaration made_nothing refl e);
  predicates_are = λ k e. kept-none (kept_predicates later.predicates) (kept_predicates earlier.predicates) _
      (ap kept_predicates same_predicates) (sym (predicates-made k d.declaration made_nothing e));
  formulas_are = λ k e. kept-none (kept_formulas later.formulas) (kept_formulas earlier.formulas) _
      (ap kept_formulas same_formulas) (sym (formulas-made k d.at earlier.item d.declaration made_nothing e));
}

-- the first fault

pub or_later-none : (o later : Option Fault) → o ≡ None → or_later o later ≡ later
or_later-none o later none = ap (λ there. or_later there later) none

or_later-some : (o later : Option Fault) (f : Fault) → or_later o None ≡ Some f → or_later o later ≡ Some f
or_later-some None later f e = absurd (cc)
or_later-some (Some g) later f e = e

pub first-alone : (k : Known) (d : Declared) (f : Fault) → first_fault (faults_in k d.declaration) ≡ Some f → first_fault_from k (d ∷ []) ≡ Some f
first-alone k d f e = ap (λ there. or_later there None) e

-- some declarations are gone through, and the rest follows: what is found and kept so far with what the rest gives is what
-- all give
pub record Goes (start now : Progress) (all rest : List Declared) : Type 0 where
  pub fault : first_fault_from (known now) rest ≡ first_fault_from (known start) all
  pub globals_are : kept_globals now.globals ++ collected (λ k item d. globals_of k d.at item d.declaration) (known now) now.item rest
      ≡ kept_globals start.globals ++ collected (λ k item d. globals_of k d.at item d.declaration) (known start) start.item all
  pub predicates_are : kept_predicates now.predicates ++ collected (λ k item d. predicates_of k d.declaration) (known now) now.item rest
      ≡ kept_predicates start.predicates ++ collected (λ k item d. predicates_of k d.declaration) (known start) start.item all
  pub formulas_are : kept_formulas now.formulas ++ collected (λ k item d. formulas_of k d.at item d.declaration) (known now) now.item rest
      ≡ kept_formulas start.formulas ++ collected (λ k item d. formulas_of k d.at item d.declaration) (known start) start.item all
  pub imports_are : now.checker.imports ++ collected (λ k item d. flat_map import_at (occurrences_in k d.declaration)) (known now) now.item rest
      ≡ start.checker.imports ++ collected (λ k item d. flat_map import_at (occurrences_in k d.declaration)) (known start) start.item all
  pub exports_are : now.checker.exports ++ collected (λ k item d. flat_map export_at (occurrences_in k d.declaration)) (known now) now.item rest
      ≡ start.checker.exports ++ collected (λ k item d. flat_map export_at (occurrences_in k d.declaration)) (known start) start.item all

pub goes-begin : (start : Progress) (all : List Declared) → Goes start start all all
goes-begin start all = record { fault = refl; globals_are = refl; predicates_are = refl; formulas_are = refl; imports_are = refl; exports_are = refl }

collected-next : {A : Type 0} (given : Known → ℕ → Declared → List A) (k j : Known) (item next : ℕ) (found more all : List A) (d : Declared) (ds : List Declared) →
    more ≡ found ++ given k item d → j ≡ after_declaration k d.declaration → next ≡ item + 1 →
    found ++ collected given k item (d ∷ ds) ≡ all → more ++ collected given j next ds ≡ all
collected-next given k j item next found more all d ds added knows counted h =
    ap (λ there. there ++ collected given j next ds) added
    ∙ (ap (λ there. (found ++ given k item d) ++ collected given there next ds) knows
    ∙ (ap (λ n. (found ++ given k item d) ++ collected given (after_declaration k d.declaration) n ds) counted
    ∙ (append_assoc found (given k item d) (collected given (after_declaration k d.declaration) (item + 1) ds) ∙ h)))

pub goes-next : (start t u : Progress) (all ds : List Declared) (d : Declared) → Goes start t all (d ∷ ds) → IsNext t u d → Goes start u all ds
goes-next start t u all ds d goes next = record {
  fault =
      ap (λ k. first_fault_from k ds) next.knows
      ∙ (sym (or_later-none (first_fault (faults_in (known t) d.declaration)) (first_fault_from (after_declaration (known t) d.declaration) ds) next.fault)
      ∙ goes.fault);
  globals_are = collected-next (λ k item there. globals_of k there.at item there.declaration) (known t) (known u) t.item u.item
      (kept_globals t.globals) (kept_globals u.globals) _ d ds next.globals_are next.knows next.item goes.globals_are;
  predicates_are = collected-next (λ k item there. predicates_of k there.declaration) (known t) (known u) t.item u.item
      (kept_predicates t.predicates) (kept_predicates u.predicates) _ d ds next.predicates_are next.knows next.item goes.predicates_are;
  formulas_are = collected-next (λ k item there. formulas_of k there.at item there.declaration) (known t) (known u) t.item u.item
      (kept_formulas t.formulas) (kept_formulas u.formulas) _ d ds next.formulas_are next.knows next.item goes.formulas_are;
  imports_are = collected-next (λ k item there. flat_map import_at (occurrences_in k there.declaration)) (known t) (known u) t.item u.item
      t.checker.imports u.checker.imports _ d ds next.imports_are next.knows next.item goes.imports_are;
  exports_are = collected-next (λ k item there. flat_map export_at (occurrences_in k there.declaration)) (known t) (known u) t.item u.item
      t.checker.exports u.checker.exports _ d ds next.exports_are next.knows next.item goes.exports_are;
}

pub goes-end : (start now : Progress) (all : List Declared) → Goes start now all [] → IsAfter start now all
goes-end start now all goes = record {
  fault = sym goes.fault;
  globals_are = sym (append-nil (kept_globals now.globals)) ∙ goes.globals_are;
  predicates_are = sym (append-nil (kept_predicates now.predicates)) ∙ goes.predicates_are;
  formulas_are = sym (append-nil (kept_formulas now.formulas)) ∙ goes.formulas_are;
  imports_are = sym (append-nil now.checker.imports) ∙ goes.imports_are;
  exports_are = sym (append-nil now.checker.exports) ∙ goes.exports_are;
}

pub goes-refused : (start now : Progress) (all ds : List Declared) (d : Declared) (told : Refusal) → Goes start now all (d ∷ ds) →
    (told ≡ Memory) ⊎ IsFirstOf (known now) (d ∷ []) told → (told ≡ Memory) ⊎ IsFirstOf (known start) all told
goes-refused start now all ds d told goes (inl want) = inl want
goes-refused start now all ds d told goes (inr (f, first, is)) =
    inr (
      f,
      sym goes.fault
          ∙ or_later-some (first_fault (faults_in (known now) d.declaration)) (first_fault_from (after_declaration (known now) d.declaration) ds) f first,
      is,
    )
