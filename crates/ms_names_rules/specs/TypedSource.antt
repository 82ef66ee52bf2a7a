-- The typed tree that a source becomes, where nothing is wrong with it.
use Rattle.std.specs.Prelude.{◌≡◌, ℕ, ◌+◌, List, [], ◌∷◌, ◌++◌, map, flat_map, Option, Some, None}
use Rattle.std.specs.Option.{option_map}
use Rattle.ms_list.specs.declared.at.At.{At}
use Rattle.ms_logic.specs.declared.mode.Mode.{Mode}
use Rattle.ms_logic.specs.declared.mode.Order.{Order}
use Rattle.ms_logic.specs.declared.source.Loaded.{Loaded}
use Rattle.ms_logic.specs.declared.checked.Checked.{Checked}
use Rattle.ms_logic.specs.declared.checked.ExportUse.{ExportUse}
use Rattle.ms_logic.specs.declared.checked.Global.{Global}
use Rattle.ms_logic.specs.declared.checked.ImportUse.{ImportUse}
use Rattle.ms_logic.specs.declared.checked.Placed as code
use Rattle.ms_logic.specs.Tree as tree
use Rattle.ms_logic.specs.Tree.{Form, Restriction, unrestricted}
use Rattle.ms_logic.specs.View.{formula_of, predicate_of, restriction}
use Rattle.ms_parse_grammar.specs.Tree as syntax
use Rattle.ms_parse_grammar.specs.Tree.{Expression, Variables, no_variables, and_variable, Domain, Declaration, variables, constant, predicate, included, default_restriction, formula, goal, Declared}
use Rattle.ms_names_rules.specs.Scope.{Bytes, Scope, bind, under_bounds, count_of_bounds}
use Rattle.ms_names_rules.specs.Declarations.{Known, at_the_beginning, after_declaration, occurrences_in}
use Rattle.ms_names_rules.specs.declared.meaning.Meaning.TheVariants.{Variable}
use Rattle.ms_names_rules.specs.Before.{Before, with_names, after_bounds}
use Rattle.ms_names_rules.specs.Uses.{import_at, export_at}
use Rattle.ms_names_rules.specs.Typed.{both, formula_in, typed, typed_domain, typed_restriction}
use Rattle.ms_parse_grammar.specs.View.{declared_of}

-- a global with its restriction, its own or the default
pub record TypedGlobal : Type 0 where
  pub at : At
  pub item : ℕ
  pub order : Order
  pub name : Bytes
  pub restriction : Restriction

-- a formula, of a goal where it has a title
pub record TypedFormula : Type 0 where
  pub at : At
  pub item : ℕ
  pub title : Option Bytes
  pub formula : Form

-- the globals of a list, whose numbers go on from x, of the declaration with a place and a number
abbrev pub globals_of_bounds : At → ℕ → Scope → ℕ → Before → Variables → List (Option TypedGlobal)
globals_of_bounds at item s x b no_variables = []
globals_of_bounds at item s x b (and_variable vs name_at o n d) =
    globals_of_bounds at item s x b vs
    ++ option_map (λ restriction. record { at = at; item = item; order = o; name = n; restriction = restriction })
    (typed_domain (under_bounds s x (and_variable vs name_at o n d)) (after_bounds b vs) o (x + count_of_bounds vs) d)
    ∷ []

-- the restriction of a parameter, which takes no default
abbrev pub restriction_of_parameter : Scope → Before → Domain → Option Restriction
restriction_of_parameter s b syntax.unrestricted = Some unrestricted
restriction_of_parameter s b (syntax.restricted e) = typed_restriction (typed s b e)

-- the parameters of a list, whose numbers go on from x
abbrev pub parameters_of_bounds : Scope → ℕ → Before → Variables → Option (List tree.Declaration)
parameters_of_bounds s x b no_variables = Some []
parameters_of_bounds s x b (and_variable vs at o n d) =
    both (λ earlier r. earlier ++ record { variable = record { name = x + count_of_bounds vs; order = o }; restriction = r } ∷ [])
    (parameters_of_bounds s x b vs)
    (restriction_of_parameter (under_bounds s x (and_variable vs at o n d)) (after_bounds b vs) d)

abbrev pub typed_predicate : Scope → Before → Variables → Expression → Option tree.Predicate
typed_predicate s b vs e =
    let here = with_names b (count_of_bounds vs) in
    both (λ parameters body. record { parameters = parameters; body = body })
    (parameters_of_bounds s b.next here vs)
    (formula_in (typed (under_bounds s b.next vs) (after_bounds here vs) e))

-- a default restriction is a predicate with one parameter, which has no restriction
abbrev pub typed_default : Scope → Before → Order → Bytes → Expression → Option tree.Predicate
typed_default s b o n e =
    option_map (λ body. record { parameters = record { variable = record { name = b.next; order = o }; restriction = unrestricted } ∷ []; body = body })
    (formula_in (typed (bind n (Variable b.next o) s) (with_names b 1) e))

-- what a declaration gives, by what is known before it and its number

abbrev pub globals_of : Known → At → ℕ → Declaration → List (Option TypedGlobal)
globals_of k at item (variables vs) = globals_of_bounds at item k.scope k.globals k.before vs
globals_of k at item (constant name_at n is) = []
globals_of k at item (predicate is_pred name_at n vs e) = []
globals_of k at item (included file_at file) = []
globals_of k at item (default_restriction o n e) = []
globals_of k at item (formula e) = []
globals_of k at item (goal name_at title e) = []

abbrev pub predicates_of : Known → Declaration → List (Option tree.Predicate)
predicates_of k (variables vs) = []
predicates_of k (constant at n is) = []
predicates_of k (predicate is_pred at n vs e) = typed_predicate k.scope k.before vs e ∷ []
predicates_of k (included file_at file) = []
predicates_of k (default_restriction o n e) = typed_default k.scope k.before o n e ∷ []
predicates_of k (formula e) = []
predicates_of k (goal name_at title e) = []

abbrev pub formulas_of : Known → At → ℕ → Declaration → List (Option TypedFormula)
formulas_of k at item (variables vs) = []
formulas_of k at item (constant name_at n is) = []
formulas_of k at item (predicate is_pred name_at n vs e) = []
formulas_of k at item (included file_at file) = []
formulas_of k at item (default_restriction o n e) = []
formulas_of k at item (formula e) =
    option_map (λ f. record { at = at; item = item; title = None; formula = f }) (formula_in (typed k.scope k.before e)) ∷ []
formulas_of k at item (goal name_at title e) =
    option_map (λ f. record { at = at; item = item; title = Some title; formula = f }) (formula_in (typed k.scope k.before e)) ∷ []

-- what all declarations give, from the declaration with this number on
abbrev pub collected : {A : Type 0} → (Known → ℕ → Declared → List A) → Known → ℕ → List Declared → List A
collected given k item [] = []
collected given k item (d ∷ ds) = given k item d ++ collected given (after_declaration k d.declaration) (item + 1) ds

-- what all declarations of a source give
abbrev pub all_of : {A : Type 0} → (Known → ℕ → Declared → List A) → Mode → List Declared → List A
all_of given mode ds = collected given (at_the_beginning mode ds) 0 ds

abbrev pub globals_of_source : Mode → List Declared → List (Option TypedGlobal)
globals_of_source mode ds = all_of (λ k item d. globals_of k d.at item d.declaration) mode ds

abbrev pub predicates_of_source : Mode → List Declared → List (Option tree.Predicate)
predicates_of_source mode ds = all_of (λ k item d. predicates_of k d.declaration) mode ds

abbrev pub imports_of_source : Mode → List Declared → List ImportUse
imports_of_source mode ds = all_of (λ k item d. flat_map import_at (occurrences_in k d.declaration)) mode ds

abbrev pub exports_of_source : Mode → List Declared → List ExportUse
exports_of_source mode ds = all_of (λ k item d. flat_map export_at (occurrences_in k d.declaration)) mode ds

abbrev pub formulas_of_source : Mode → List Declared → List (Option TypedFormula)
formulas_of_source mode ds = all_of (λ k item d. formulas_of k d.at item d.declaration) mode ds

abbrev pub global_of : Global → TypedGlobal
global_of g = record { at = g.at; item = g.item; order = g.order; name = g.name; restriction = restriction (option_map formula_of g.domain) }

abbrev pub placed_formula_of : code.Placed → TypedFormula
placed_formula_of f = record { at = f.at; item = f.item; title = f.title; formula = formula_of f.formula }

-- the checked source is the typed tree that the loaded source becomes
pub record IsTyped (loaded : Loaded) (checked : Checked) : Type 0 where
  pub mode : checked.mode ≡ loaded.mode
  pub globals_are : map (λ g. Some (global_of g)) checked.globals ≡ globals_of_source loaded.mode (map declared_of loaded.items)
  pub predicates_are : map (λ p. Some (predicate_of p)) checked.predicates ≡ predicates_of_source loaded.mode (map declared_of loaded.items)
  pub imports_are : checked.imports ≡ imports_of_source loaded.mode (map declared_of loaded.items)
  pub exports_are : checked.exports ≡ exports_of_source loaded.mode (map declared_of loaded.items)
  pub formulas_are : map (λ f. Some (placed_formula_of f)) checked.formulas ≡ formulas_of_source loaded.mode (map declared_of loaded.items)
  pub files : checked.files ≡ loaded.files
