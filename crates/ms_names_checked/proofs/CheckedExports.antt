-- The exports of a checked source stand where they may, and list the free variables of what they export.
use Rattle.std.proofs.Common.{◌≡◌, ℕ, map, sym, subst, None}
use Rattle.ms_list.specs.declared.at.At.{At as Place}
use Rattle.ms_logic.specs.declared.checked.Checked.{Checked}
use Rattle.ms_logic.specs.declared.source.Loaded.{Loaded}
use Rattle.ms_parse_grammar.specs.Tree.{Declaration, Expression}
use Rattle.ms_names_rules.specs.Declarations.{Known, at_the_beginning, occurrences_in, first_fault_of}
use Rattle.ms_logic.specs.Lists.{Each}
use Rattle.ms_names_rules.specs.Occurrence.{occurrences}
use Rattle.ms_names_rules.specs.Order.{formula_wanted}
use Rattle.ms_names_rules.specs.Typed.{formula_in, typed}
use Rattle.ms_names_rules.specs.TypedSource.{IsTyped, TypedFormula, formulas_of, placed_formula_of}
use Rattle.ms_parse_grammar.specs.View.{declared_of}
use Rattle.ms_names_rules.proofs.Fitting.{If}
use Rattle.ms_names_rules.proofs.Makes.{right-there}
use Rattle.ms_names_rules.proofs.Orders.{AreRight}
use Rattle.ms_names_checked.specs.Exports.{HasExportsInPlace, ListsFreeVariables}
use Rattle.ms_names_checked.proofs.Collected.{each-collected, each-formula, each-kept}
use Rattle.ms_names_checked.proofs.FreeInSources.{variables-listed}
use Rattle.ms_names_checked.proofs.InPlace.{formula-in-place, in-place}

formulas-in-place : (k : Known) (at : Place) (item : ℕ) (d : Declaration) → AreRight (occurrences_in k d) → Each (If (λ (f : TypedFormula). HasExportsInPlace f.formula)) (formulas_of k at item d)
formulas-in-place k at item d right = each-formula HasExportsInPlace (λ d. AreRight (occurrences_in k d)) k held (λ name_at title. held) at item d right
  where
    held : (e : Expression) → AreRight (occurrences k.scope k.before formula_wanted e) → If HasExportsInPlace (formula_in (typed k.scope k.before e))
    held e right = formula-in-place (typed k.scope k.before e) (in-place k.scope k.before formula_wanted e right)

pub list-free-variables : (loaded : Loaded) (checked : Checked) → IsTyped loaded checked → first_fault_of loaded.mode (map declared_of loaded.items) ≡ None → ListsFreeVariables checked
list-free-variables loaded checked typed right =
    let P : TypedFormula → Type 0 = λ f. HasExportsInPlace f.formula in
    let all = each-collected (λ k item d. formulas_of k d.at item d.declaration) (If P) (λ k. Unit {0}) (λ k d is. tt)
    (λ k item d is none. formulas-in-place k d.at item d.declaration (right-there k d.declaration none))
    (at_the_beginning loaded.mode (map declared_of loaded.items)) 0 (map declared_of loaded.items) tt right in
    record {
      in_place = each-kept P placed_formula_of checked.formulas (subst (λ xs. Each (If P) xs) (sym typed.formulas_are) all);
      variables = λ answers long. variables-listed loaded checked typed answers long;
    }
