-- What a source becomes keeps places of it.
use Rattle.std.proofs.Common.{ℕ, ◌+◌, List, [], ◌∷◌, length, map, Option, Some, None, sym, subst}
use Rattle.std.specs.Prelude.{flat_map}
use Rattle.std.specs.Option.{option_map}
use Rattle.ms_list.specs.declared.at.At.{At}
use Rattle.ms_logic.specs.declared.checked.Checked.{Checked}
use Rattle.ms_logic.specs.declared.checked.ExportUse.{ExportUse}
use Rattle.ms_logic.specs.declared.checked.Global.{Global}
use Rattle.ms_logic.specs.declared.checked.ImportUse.{ImportUse}
use Rattle.ms_logic.specs.declared.checked.Placed as code
use Rattle.ms_logic.specs.Tree.{Form, Restriction}
use Rattle.ms_logic.specs.declared.mode.Order.{Order}
use Rattle.ms_logic.specs.declared.source.Loaded.{Loaded}
use Rattle.ms_names_rules.specs.Scope.{Bytes, Scope, count_of_bounds, under_bounds}
use Rattle.ms_parse_grammar.specs.Tree.{Variables, no_variables, and_variable, Declaration, variables, constant, predicate, included, default_restriction, formula, goal, Declared}
use Rattle.ms_names_rules.specs.Declarations.{Known, after_declaration, at_the_beginning, occurrences_in}
use Rattle.ms_names_rules.specs.Before.{Before, after_bounds}
use Rattle.ms_logic.specs.Lists.{Each}
use Rattle.ms_names_rules.specs.Typed.{formula_in, typed, typed_domain}
use Rattle.ms_names_rules.specs.TypedSource.{IsTyped, TypedFormula, TypedGlobal, collected, formulas_of, global_of, globals_of, globals_of_bounds, placed_formula_of}
use Rattle.ms_names_rules.specs.Uses.{export_at, import_at}
use Rattle.ms_parse_grammar.specs.View.{declared_of}
use Rattle.ms_names_rules.proofs.Fitting.{If, each-append}
use Rattle.ms_include_laws.specs.inner.places.Laws.{TypedSourcesKeepPlaces}
use Rattle.ms_include_laws.specs.inner.places.Places.{EachPlaceInDeclared, EachPlaceInItem, IsAmongFiles}
use Rattle.ms_include_laws.proofs.of_places.Faults.{ExportAt, ImportAt, exports-at, imports-at}
use Rattle.ms_include_laws.proofs.of_places.Declarations.{items-at, occurrences-stand}

module _ (P : At → Type 0) where
  all-collected : {A : Type 0} (given : Known → ℕ → Declared → List A) (Q : A → Type 0) →
      ((k : Known) (item : ℕ) (d : Declared) → EachPlaceInDeclared P d → Each Q (given k item d)) →
      (k : Known) (item : ℕ) (ds : List Declared) → Each (EachPlaceInDeclared P) ds → Each Q (collected given k item ds)
  all-collected given Q holds k item [] h = tt
  all-collected given Q holds k item (d ∷ ds) h =
      each-append Q (given k item d) (collected given (after_declaration k d.declaration) (item + 1) ds) (holds k item d h.0)
      (all-collected given Q holds (after_declaration k d.declaration) (item + 1) ds h.1)

  abbrev GlobalAt : TypedGlobal → Type 0
  GlobalAt g = P g.at

  abbrev FormulaAt : TypedFormula → Type 0
  FormulaAt f = P f.at

  global-at : (at : At) (item : ℕ) (o : Order) (n : Bytes) (found : Option Restriction) → P at →
      If GlobalAt (option_map (λ restriction. record { at = at; item = item; order = o; name = n; restriction = restriction }) found)
  global-at at item o n None h = tt
  global-at at item o n (Some restriction) h = h

  bounds-globals : (at : At) (item : ℕ) (s : Scope) (x : ℕ) (b : Before) (vs : Variables) → P at → Each (If GlobalAt) (globals_of_bounds at item s x b vs)
  bounds-globals at item s x b no_variables h = tt
  bounds-globals at item s x b (and_variable vs name_at o n d) h =
      each-append (If GlobalAt) (globals_of_bounds at item s x b vs) _ (bounds-globals at item s x b vs h)
      (global-at at item o n (typed_domain (under_bounds s x (and_variable vs name_at o n d)) (after_bounds b vs) o (x + count_of_bounds vs) d) h, tt)

  globals-here : (k : Known) (at : At) (item : ℕ) (d : Declaration) → P at → Each (If GlobalAt) (globals_of k at item d)
  globals-here k at item (variables vs) h = bounds-globals at item k.scope k.globals k.before vs h
  globals-here k at item (constant name_at n is) h = tt
  globals-here k at item (predicate is_pred name_at n vs e) h = tt
  globals-here k at item (included text_at file) h = tt
  globals-here k at item (default_restriction o n e) h = tt
  globals-here k at item (formula e) h = tt
  globals-here k at item (goal name_at title e) h = tt

  formula-at : (at : At) (item : ℕ) (title : Option Bytes) (found : Option Form) → P at → If FormulaAt (option_map (λ f. record { at = at; item = item; title = title; formula = f }) found)
  formula-at at item title None h = tt
  formula-at at item title (Some f) h = h

  formulas-here : (k : Known) (at : At) (item : ℕ) (d : Declaration) → P at → Each (If FormulaAt) (formulas_of k at item d)
  formulas-here k at item (variables vs) h = tt
  formulas-here k at item (constant name_at n is) h = tt
  formulas-here k at item (predicate is_pred name_at n vs e) h = tt
  formulas-here k at item (included text_at file) h = tt
  formulas-here k at item (default_restriction o n e) h = tt
  formulas-here k at item (formula e) h = (formula-at at item None (formula_in (typed k.scope k.before e)) h, tt)
  formulas-here k at item (goal name_at title e) h = (formula-at at item (Some title) (formula_in (typed k.scope k.before e)) h, tt)

  kept-globals : (gs : List Global) → Each (If GlobalAt) (map (λ g. Some (global_of g)) gs) → Each (λ (g : Global). P g.at) gs
  kept-globals [] h = tt
  kept-globals (g ∷ gs) h = (h.0, kept-globals gs h.1)

  kept-formulas : (fs : List code.Placed) → Each (If FormulaAt) (map (λ f. Some (placed_formula_of f)) fs) → Each (λ (f : code.Placed). P f.at) fs
  kept-formulas [] h = tt
  kept-formulas (f ∷ fs) h = (h.0, kept-formulas fs h.1)

  module _ (loaded : Loaded) (checked : Checked) (typed : IsTyped loaded checked) (h : Each (EachPlaceInItem P) loaded.items) where
    abbrev here : Known
    here = at_the_beginning loaded.mode (map declared_of loaded.items)

    pub globals-kept : Each (λ (g : Global). P g.at) checked.globals
    globals-kept = kept-globals checked.globals (subst (λ (gs : List (Option TypedGlobal)). Each (If GlobalAt) gs) (sym typed.globals_are)
        (all-collected (λ k item d. globals_of k d.at item d.declaration) (If GlobalAt) (λ k item d at. globals-here k d.at item d.declaration at.0) here 0 (map declared_of loaded.items) (items-at P loaded.items h)))

    pub formulas-kept : Each (λ (f : code.Placed). P f.at) checked.formulas
    formulas-kept = kept-formulas checked.formulas (subst (λ (fs : List (Option TypedFormula)). Each (If FormulaAt) fs) (sym typed.formulas_are)
        (all-collected (λ k item d. formulas_of k d.at item d.declaration) (If FormulaAt) (λ k item d at. formulas-here k d.at item d.declaration at.0) here 0 (map declared_of loaded.items) (items-at P loaded.items h)))

    pub imports-kept : Each (ImportAt P) checked.imports
    imports-kept = subst (λ (us : List ImportUse). Each (ImportAt P) us) (sym typed.imports_are)
        (all-collected (λ k item d. flat_map import_at (occurrences_in k d.declaration)) (ImportAt P) (λ k item d at. imports-at P (occurrences_in k d.declaration) (occurrences-stand P k d.declaration at.1)) here 0
        (map declared_of loaded.items) (items-at P loaded.items h))

    pub exports-kept : Each (ExportAt P) checked.exports
    exports-kept = subst (λ (us : List ExportUse). Each (ExportAt P) us) (sym typed.exports_are)
        (all-collected (λ k item d. flat_map export_at (occurrences_in k d.declaration)) (ExportAt P) (λ k item d at. exports-at P (occurrences_in k d.declaration) (occurrences-stand P k d.declaration at.1)) here 0
        (map declared_of loaded.items) (items-at P loaded.items h))

pub typed-sources : TypedSourcesKeepPlaces
typed-sources base loaded checked h typed =
    let P : At → Type 0 = IsAmongFiles base (length checked.files) in
    let all = subst (λ files. Each (EachPlaceInItem (IsAmongFiles base (length files))) loaded.items) (sym typed.files) h in
    record {
      globals = globals-kept P loaded checked typed all;
      formulas = formulas-kept P loaded checked typed all;
      imports = imports-kept P loaded checked typed all;
      exports = exports-kept P loaded checked typed all;
    }
