-- A check of a source that stands between two declarations.
use Rattle.std.specs.Prelude.{◌≡◌, ℕ, ◌+◌, List, [], ◌∷◌, ◌++◌, map, flat_map, Option, Some, None}
use Rattle.std.specs.Option.{IsSome}
use Rattle.ms_list.specs.declared.at.At.{At}
use Rattle.ms_edge.specs.declared.refusal.Refusal.{Refusal}
use Rattle.ms_logic.specs.declared.checked.Checked.{Checked}
use Rattle.ms_logic.specs.declared.checked.Global.{Global}
use Rattle.ms_logic.specs.declared.checked.Placed as code
use Rattle.ms_logic.specs.declared.checked.Predicate.{Predicate}
use Rattle.ms_logic.specs.declared.mode.Mode.{Mode}
use Rattle.ms_logic.specs.declared.mode.Order.{Order}
use Rattle.ms_logic.specs.declared.source.Loaded.{Loaded}
use Rattle.ms_logic.specs.Tree as tree
use Rattle.ms_logic.specs.View.{predicate_of}
use Rattle.ms_names_rules.specs.declared.fault.Fault.{Fault}
use Rattle.ms_names_rules.specs.Declarations.{Known, after_declaration, at_the_beginning, exports_in, faults_in, first_fault_from, occurrences_in}
use Rattle.ms_names_rules.specs.Fault.{first_fault, refusal_of}
use Rattle.ms_names_rules.specs.Scope.{Bytes}
use Rattle.ms_parse_grammar.specs.Tree.{Variables, no_variables, and_variable, Declaration, variables, constant, predicate, included, default_restriction, formula, goal, Declared}
use Rattle.ms_names_rules.specs.TypedSource.{TypedFormula, TypedGlobal, collected, formulas_of, global_of, globals_of, placed_formula_of, predicates_of}
use Rattle.ms_names_rules.specs.Uses.{export_at, import_at}
use Rattle.ms_parse_grammar.specs.View.{declared_of}
use Rattle.ms_names.specs.declared.progress.Progress.{Progress}
use Rattle.ms_names_scopes.specs.inner.Declaration.{known_at}
use Rattle.ms_names.specs.inner.Outcome.{Made, made_globals, made_predicate, made_formula, made_nothing, made_in}

-- what is known there
abbrev pub known : Progress → Known
known p = known_at p.checker p.count p.taken

-- what is kept of the declarations so far

abbrev pub kept_globals : List Global → List (Option TypedGlobal)
kept_globals gs = map (λ g. Some (global_of g)) gs

abbrev pub kept_predicates : List Predicate → List (Option tree.Predicate)
kept_predicates ps = map (λ p. Some (predicate_of p)) ps

abbrev pub kept_formulas : List code.Placed → List (Option TypedFormula)
kept_formulas fs = map (λ f. Some (placed_formula_of f)) fs

-- what a declaration gives is there
abbrev pub IsMade : Made → Type 0
IsMade (made_globals vs) = IsSome vs
IsMade (made_predicate p) = IsSome p
IsMade (made_formula f) = IsSome f
IsMade made_nothing = Unit {0}

-- the variables of a declaration of globals
abbrev pub bounds_in : Declaration → Variables
bounds_in (variables vs) = vs
bounds_in (constant at n is) = no_variables
bounds_in (predicate is_pred at n vs e) = no_variables
bounds_in (included text_at file) = no_variables
bounds_in (default_restriction o n e) = no_variables
bounds_in (formula e) = no_variables
bounds_in (goal name_at title e) = no_variables

-- the variables of a list by their orders and names
abbrev pub listed_bounds : Variables → List (Order × Bytes)
listed_bounds no_variables = []
listed_bounds (and_variable vs at o n d) = listed_bounds vs ++ (o, n) ∷ []

-- globals with their restrictions, of the declaration with a place and a number
abbrev pub globals_with : At → ℕ → List tree.Declaration → List (Order × Bytes) → List (Option TypedGlobal)
globals_with at item [] names = []
globals_with at item (v ∷ more) [] = []
globals_with at item (v ∷ more) ((o, n) ∷ names) =
    Some (record { at = at; item = item; order = o; name = n; restriction = v.restriction }) ∷ globals_with at item more names

-- before the first declaration of a source
pub record IsBeginning (p : Progress) (mode : Mode) (ds : List Declared) : Type 0 where
  pub knows : known p ≡ at_the_beginning mode ds
  pub item : p.item ≡ 0
  pub globals_are : p.globals ≡ []
  pub predicates_are : p.predicates ≡ []
  pub formulas_are : p.formulas ≡ []
  pub imports_are : p.checker.imports ≡ []
  pub exports_are : p.checker.exports ≡ []

-- with what a declaration gives, wherever that is what was made of it
pub record Keeps (earlier later : Progress) (d : Declared) (made : Made) : Type 0 where
  pub globals_are : (k : Known) → made ≡ made_in k.scope k.globals k.before d.declaration →
      kept_globals later.globals ≡ kept_globals earlier.globals ++ globals_of k d.at earlier.item d.declaration
  pub predicates_are : (k : Known) → made ≡ made_in k.scope k.globals k.before d.declaration →
      kept_predicates later.predicates ≡ kept_predicates earlier.predicates ++ predicates_of k d.declaration
  pub formulas_are : (k : Known) → made ≡ made_in k.scope k.globals k.before d.declaration →
      kept_formulas later.formulas ≡ kept_formulas earlier.formulas ++ formulas_of k d.at earlier.item d.declaration

-- the first fault of the next declarations
abbrev pub IsFirstOf : Known → List Declared → Refusal → Type 0
IsFirstOf k ds refusal = (f : Fault) × (first_fault_from k ds ≡ Some f) × (refusal ≡ refusal_of f)

-- after one more declaration, in which nothing is wrong
pub record IsNext (earlier later : Progress) (d : Declared) : Type 0 where
  pub fault : first_fault (faults_in (known earlier) d.declaration) ≡ None
  pub knows : known later ≡ after_declaration (known earlier) d.declaration
  pub item : later.item ≡ earlier.item + 1
  pub globals_are : kept_globals later.globals ≡ kept_globals earlier.globals ++ globals_of (known earlier) d.at earlier.item d.declaration
  pub predicates_are : kept_predicates later.predicates ≡ kept_predicates earlier.predicates ++ predicates_of (known earlier) d.declaration
  pub formulas_are : kept_formulas later.formulas ≡ kept_formulas earlier.formulas ++ formulas_of (known earlier) d.at earlier.item d.declaration
  pub imports_are : later.checker.imports ≡ earlier.checker.imports ++ flat_map import_at (occurrences_in (known earlier) d.declaration)
  pub exports_are : later.checker.exports ≡ earlier.checker.exports ++ exports_in (known earlier) d.declaration

-- after more declarations, in which nothing is wrong
pub record IsAfter (earlier later : Progress) (ds : List Declared) : Type 0 where
  pub fault : first_fault_from (known earlier) ds ≡ None
  pub globals_are : kept_globals later.globals
      ≡ kept_globals earlier.globals ++ collected (λ k item d. globals_of k d.at item d.declaration) (known earlier) earlier.item ds
  pub predicates_are : kept_predicates later.predicates
      ≡ kept_predicates earlier.predicates ++ collected (λ k item d. predicates_of k d.declaration) (known earlier) earlier.item ds
  pub formulas_are : kept_formulas later.formulas
      ≡ kept_formulas earlier.formulas ++ collected (λ k item d. formulas_of k d.at item d.declaration) (known earlier) earlier.item ds
  pub imports_are : later.checker.imports
      ≡ earlier.checker.imports ++ collected (λ k item d. flat_map import_at (occurrences_in k d.declaration)) (known earlier) earlier.item ds
  pub exports_are : later.checker.exports
      ≡ earlier.checker.exports ++ collected (λ k item d. flat_map export_at (occurrences_in k d.declaration)) (known earlier) earlier.item ds

-- at the end of a source in which nothing is wrong
abbrev pub IsEnd : Loaded → Progress → Type 0
IsEnd loaded p = (start : Progress) × (IsBeginning start loaded.mode (map declared_of loaded.items)) × (IsAfter start p (map declared_of loaded.items))

-- what is kept there, with the names of the files
abbrev pub checked_with : Mode → List Bytes → Progress → Checked
checked_with mode files p = record {
  mode = mode;
  globals = p.globals;
  predicates = p.predicates;
  imports = p.checker.imports;
  exports = p.checker.exports;
  formulas = p.formulas;
  files = files;
}
