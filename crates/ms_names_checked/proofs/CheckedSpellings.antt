-- The names in a checked source are names of the language, where those of the source are.
use Rattle.std.proofs.Common.{ℕ, ◌+◌, List, [], ◌∷◌, ◌++◌, map, sym, subst, append_assoc}
use Rattle.std.specs.Prelude.{flat_map}
use Rattle.ms_logic.specs.declared.checked.ExportUse.{ExportUse}
use Rattle.ms_logic.specs.declared.checked.ImportUse.{ImportUse}
use Rattle.ms_names_rules.specs.declared.meaning.Meaning.TheVariants as meaning
use Rattle.ms_names_rules.specs.Scope.{Bytes, bind, count_of_bounds, under_bounds, without_exports}
use Rattle.ms_parse_grammar.specs.Tree.{Variables, no_variables, and_variable, Declaration, variables, constant, predicate, included, default_restriction, formula, goal, Declared}
use Rattle.ms_names_rules.specs.Before.{with_names, after_bounds}
use Rattle.ms_names_rules.specs.Declarations.{Known, after_declaration, at_the_beginning, occurrences_in, with_readings}
use Rattle.ms_logic.specs.Lists.{Each}
use Rattle.ms_names_rules.specs.Order.{formula_wanted}
use Rattle.ms_names_rules.specs.Occurrence.{Occurrence, inside_bounds, occurrences}
use Rattle.ms_names_rules.specs.TypedSource.{collected}
use Rattle.ms_names_rules.specs.Uses.{export_at, import_at}
use Rattle.ms_parse_grammar.specs.View.{declared_of}
use Rattle.ms_names_rules.proofs.Fitting.{each-append}
use Rattle.ms_names_checked.specs.inner.Laws.{TypedSourcesHaveNames}
use Rattle.ms_names_checked.specs.Spellings.{BoundsHaveNames, DeclaresNames, IsName}
use Rattle.ms_names_checked.proofs.Globals.{globals-picked, names_in, names_of_bounds, names_of_globals}
use Rattle.ms_names_checked.proofs.Scopes.{default-names}
use Rattle.ms_names_checked.proofs.Spelled.{ExportNamed, ImportNamed, IsNamed, UsesNamed, bounds-named, bounds-scope, named}

-- globals

bounds-spelled : (vs : Variables) (ns : List Bytes) → BoundsHaveNames vs → Each IsName ns → Each IsName (names_of_bounds vs ++ ns)
bounds-spelled no_variables ns h k = k
bounds-spelled (and_variable vs at o n d) ns h k =
    subst (λ names. Each IsName names) (sym (append_assoc (names_of_bounds vs) (n ∷ []) ns)) (bounds-spelled vs (n ∷ ns) h.0 (h.1, k))

declaration-spelled : (d : Declaration) (ns : List Bytes) → DeclaresNames d → Each IsName ns → Each IsName (names_in d ++ ns)
declaration-spelled (variables vs) ns h k = bounds-spelled vs ns h k
declaration-spelled (constant at n is) ns h k = k
declaration-spelled (predicate is_pred at n vs e) ns h k = k
declaration-spelled (included text_at file) ns h k = k
declaration-spelled (default_restriction o n e) ns h k = k
declaration-spelled (formula e) ns h k = k
declaration-spelled (goal name_at title e) ns h k = k

globals-spelled : (ds : List Declared) → Each (λ (d : Declared). DeclaresNames d.declaration) ds → Each IsName (names_of_globals ds)
globals-spelled [] h = tt
globals-spelled (d ∷ ds) h = declaration-spelled d.declaration (names_of_globals ds) h.0 (globals-spelled ds h.1)

-- exports and imports

uses-here : (k : Known) (d : Declaration) → Each IsNamed k.scope.names → DeclaresNames d → Each UsesNamed (occurrences_in k d)
uses-here k (variables vs) h names = bounds-named k.scope k.globals k.before vs h names
uses-here k (constant at n is) h names = tt
uses-here k (predicate is_pred at n vs e) h names =
    let b = k.before in
    let here = with_names b (count_of_bounds vs) in
    let outer = without_exports k.scope in
    let inner = under_bounds outer b.next vs in
    each-append UsesNamed (inside_bounds outer b.next here vs) (occurrences inner (after_bounds here vs) formula_wanted e) (bounds-named outer b.next here vs h names.0)
    (named inner (after_bounds here vs) formula_wanted e (bounds-scope outer b.next vs h names.0) names.1)
uses-here k (included text_at file) h names = tt
uses-here k (default_restriction o n e) h names =
    named (bind n (meaning.Variable k.before.next o) (without_exports k.scope)) (with_names k.before 1) formula_wanted e (names.0, h) names.1
uses-here k (formula e) h names = named k.scope k.before formula_wanted e h names
uses-here k (goal name_at title e) h names = named k.scope k.before formula_wanted e h names

names-after : (k : Known) (d : Declaration) → Each IsNamed k.scope.names → DeclaresNames d → Each IsNamed (after_declaration k d).scope.names
names-after k (variables vs) h names = bounds-scope k.scope k.globals vs h names
names-after k (constant at n is) h names = (tt, h)
names-after k (predicate is_pred at n vs e) h names = (tt, h)
names-after k (included text_at file) h names = h
names-after k (default_restriction o n e) h names =
    subst (λ there. Each IsNamed there) (sym (default-names (with_readings (occurrences_in k (default_restriction o n e)) k.scope) o _)) h
names-after k (formula e) h names = h
names-after k (goal name_at title e) h names = h

flat-exports : (os : List Occurrence) → Each UsesNamed os → Each ExportNamed (flat_map export_at os)
flat-exports [] h = tt
flat-exports (o ∷ os) h = each-append ExportNamed (export_at o) (flat_map export_at os) h.0.0 (flat-exports os h.1)

flat-imports : (os : List Occurrence) → Each UsesNamed os → Each ImportNamed (flat_map import_at os)
flat-imports [] h = tt
flat-imports (o ∷ os) h = each-append ImportNamed (import_at o) (flat_map import_at os) h.0.1 (flat-imports os h.1)

uses-spelled : (k : Known) (item : ℕ) (ds : List Declared) → Each IsNamed k.scope.names → Each (λ (d : Declared). DeclaresNames d.declaration) ds →
    Each ExportNamed (collected (λ k item d. flat_map export_at (occurrences_in k d.declaration)) k item ds)
    × Each ImportNamed (collected (λ k item d. flat_map import_at (occurrences_in k d.declaration)) k item ds)
uses-spelled k item [] h names = (tt, tt)
uses-spelled k item (d ∷ ds) h names =
    let here = uses-here k d.declaration h names.0 in
    let next = after_declaration k d.declaration in
    let rest = uses-spelled next (item + 1) ds (names-after k d.declaration h names.0) names.1 in (
      each-append ExportNamed (flat_map export_at (occurrences_in k d.declaration)) (collected (λ k item d. flat_map export_at (occurrences_in k d.declaration)) next (item + 1) ds)
          (flat-exports (occurrences_in k d.declaration) here) rest.0,
      each-append ImportNamed (flat_map import_at (occurrences_in k d.declaration)) (collected (λ k item d. flat_map import_at (occurrences_in k d.declaration)) next (item + 1) ds)
          (flat-imports (occurrences_in k d.declaration) here) rest.1,
    )

pub have-names : TypedSourcesHaveNames
have-names loaded checked typed names =
    let ds = map declared_of loaded.items in
    let k = at_the_beginning loaded.mode ds in
    let own = globals-picked (λ o n. n) k 0 ds checked.globals typed.globals_are in
    let uses = uses-spelled k 0 ds tt names in
    record {
      globals = subst (λ (ns : List Bytes). Each IsName ns) (sym own) (globals-spelled ds names);
      exports = subst (λ (xs : List ExportUse). Each ExportNamed xs) (sym typed.exports_are) uses.0;
      imports = subst (λ (us : List ImportUse). Each ImportNamed us) (sym typed.imports_are) uses.1;
    }
