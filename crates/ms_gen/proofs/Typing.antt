-- The checked source that a generated source becomes.
use Rattle.std.proofs.Common.{◌≡◌, ◌≤◌, ℕ, zero, suc, ◌+◌, false, List, [], ◌∷◌, ◌++◌, flat_map, map, Option, Some, None, refl, sym, ap, ◌∙◌}
use Rattle.std.specs.Option.{option_map}
use Rattle.std.proofs.lemmas.List.{append-nil, map-append}
use Rattle.ms_gen.specs.Generated.{name_of}
use Rattle.ms_list.specs.declared.at.At.{At}
use Rattle.ms_logic.specs.declared.checked.Checked.{Checked}
use Rattle.ms_logic.specs.declared.checked.Global.{Global}
use Rattle.ms_logic.specs.declared.formula.Formula.{Formula}
use Rattle.ms_logic.specs.declared.formula.Formula.TheVariants as form
use Rattle.ms_logic.specs.declared.mode.Mode.TheVariants.{Ws1s}
use Rattle.ms_logic.specs.declared.mode.Order.TheVariants.{One, Two}
use Rattle.ms_logic.specs.declared.mode.Quant.TheVariants.{Ex, All}
use Rattle.ms_logic.specs.declared.mode.Rel.TheVariants.{Less, Sub}
use Rattle.ms_logic.specs.declared.source.Loaded.{Loaded}
use Rattle.ms_logic.specs.declared.term.Term1.TheVariants as number
use Rattle.ms_logic.specs.declared.term.Term2.TheVariants as set
use Rattle.ms_logic.specs.Tree as tree
use Rattle.ms_logic.specs.Tree.{Form}
use Rattle.ms_logic.specs.View.{formula_of, forms}
use Rattle.ms_logic.proofs.Views.{formula_of-And, formula_of-Bind-none, formula_of-Compare, formula_of-CompareSets, formula_of-Implies, formula_of-Member, formula_of-True, set_term_of-Var, term_of-Var}
use Rattle.ms_names_rules.specs.Before.{Before}
use Rattle.ms_names_rules.specs.Scope.{Bytes, Scope, count_of_bounds, under_bounds}
use Rattle.ms_names_rules.specs.Typed.{default_restriction, formula_in}
use Rattle.ms_names_rules.specs.TypedSource.{IsTyped, TypedFormula, TypedGlobal, exports_of_source, formulas_of_source, global_of, globals_of_bounds, globals_of_source, imports_of_source, predicates_of_source}
use Rattle.ms_names_rules.specs.Uses.{export_at, import_at}
use Rattle.ms_gen.proofs.Becoming.{antecedent_form, chain-stands, chain_form, chain_parts, first, free-is, free-stands, free_form, inclusion, outside_forms, third}
use Rattle.ms_gen.proofs.Known.{inside-sets, set_names}
use Rattle.ms_gen.proofs.Pieces.{at}
use Rattle.ms_gen.proofs.Reading.{chain_start, document, free_start, set_start, sets, sets_start}
use Rattle.ms_gen.proofs.Source.{items-viewed, source}

-- the formulas of the code

abbrev pub inclusion_made : ℕ → ℕ → Formula
inclusion_made m n = form.CompareSets Sub (set.Var m) (set.Var n)

abbrev pub parts_made : ℕ → List Formula
parts_made zero = form.True ∷ []
parts_made (suc n) = parts_made n ++ inclusion_made n (n + 1) ∷ []

abbrev pub antecedent_made : ℕ → Formula
antecedent_made zero = form.True
antecedent_made (suc n) = form.And (parts_made (suc n))

abbrev pub chain_made : ℕ → Formula
chain_made last = form.Implies (antecedent_made last) (inclusion_made 0 last)

abbrev pub free_made : ℕ → ℕ → Formula
free_made x last =
    form.Bind All One x None (form.Bind Ex One (x + 1) None
    (form.And (form.Compare Less (number.Var x) (number.Var (x + 1)) ∷ form.Member false (number.Var (x + 1)) (set.Var last) ∷ [])))

inclusion-is : (m n : ℕ) → formula_of (inclusion_made m n) ≡ inclusion m n
inclusion-is m n = formula_of-CompareSets Sub (set.Var m) (set.Var n) ∙ (λ i. tree.set_comparison Sub (set_term_of-Var m i) (set_term_of-Var n i))

parts-are : (n : ℕ) → map formula_of (parts_made n) ≡ chain_parts n
parts-are zero = ap (λ f. f ∷ []) formula_of-True
parts-are (suc n) = map-append formula_of (parts_made n) (inclusion_made n (n + 1) ∷ []) ∙ (λ i. parts-are n i ++ inclusion-is n (n + 1) i ∷ [])

antecedent-is : (n : ℕ) → formula_of (antecedent_made n) ≡ antecedent_form n
antecedent-is zero = formula_of-True
antecedent-is (suc n) = formula_of-And (parts_made (suc n)) ∙ ap (λ fs. tree.conjunction (forms fs)) (parts-are (suc n))

pub chain-is : (last : ℕ) → formula_of (chain_made last) ≡ chain_form last
chain-is last = formula_of-Implies (antecedent_made last) (inclusion_made 0 last) ∙ (λ i. tree.implication (antecedent-is last i) (inclusion-is 0 last i))

pub free-made-is : (x last : ℕ) → formula_of (free_made x last) ≡ free_form x last
free-made-is x last =
    let less = form.Compare Less (number.Var x) (number.Var (x + 1)) in
    let out = form.Member false (number.Var (x + 1)) (set.Var last) in
    let both = form.And (less ∷ out ∷ []) in
    let less-is : formula_of less ≡ tree.comparison Less (tree.number_variable x) (tree.number_variable (x + 1)) =
    formula_of-Compare Less (number.Var x) (number.Var (x + 1)) ∙ (λ i. tree.comparison Less (term_of-Var x i) (term_of-Var (x + 1) i))
    in
    let out-is : formula_of out ≡ tree.membership false (tree.number_variable (x + 1)) (tree.set_variable last) =
    formula_of-Member false (number.Var (x + 1)) (set.Var last) ∙ (λ i. tree.membership false (term_of-Var (x + 1) i) (set_term_of-Var last i))
    in
    let both-is : formula_of both ≡ tree.conjunction (forms (outside_forms x (x + 1) last)) =
    formula_of-And (less ∷ out ∷ []) ∙ (λ i. tree.conjunction (forms (less-is i ∷ out-is i ∷ [])))
    in
    formula_of-Bind-none All One x (form.Bind Ex One (x + 1) None both)
    ∙ ap (tree.quantified All One x tree.unrestricted) (formula_of-Bind-none Ex One (x + 1) both ∙ ap (tree.quantified Ex One (x + 1) tree.unrestricted) both-is)

-- the sets

abbrev pub global_made : At → At × Bytes → Global
global_made there v = record { at = there; item = 0; order = Two; name = v.1; domain = None }

defaults-kept : (s : Scope) (start n : ℕ) → (under_bounds s 0 (sets start n)).default_of_sets ≡ s.default_of_sets
defaults-kept s start zero = refl
defaults-kept s start (suc n) = defaults-kept s start n

globals-are : (there : At) (s : Scope) (b : Before) (start n : ℕ) → s.default_of_sets ≡ None
    → map (λ g. Some (global_of g)) (map (global_made there) (set_names start n)) ≡ globals_of_bounds there 0 s 0 b (sets start n)
globals-are there s b start zero none = λ i. Some (record { at = there; item = 0; order = Two; name = name_of 0; restriction = default_restriction (sym none i) 0 }) ∷ []
globals-are there s b start (suc n) none =
    let some : Global → Option TypedGlobal = λ g. Some (global_of g) in
    let v : At × Bytes = (at (set_start start (suc n) + 1), name_of (n + 1)) in
    let kept = sym (defaults-kept s start (suc n) ∙ none) in
    ap (map some) (map-append (global_made there) (set_names start n) (v ∷ []))
    ∙ (map-append some (map (global_made there) (set_names start n)) (global_made there v ∷ [])
    ∙ (λ i. globals-are there s b start n none i
    ++ Some (record { at = there; item = 0; order = Two; name = name_of (n + 1); restriction = default_restriction (kept i) (0 + count_of_bounds (sets start n)) }) ∷ []))

-- the checked source

-- the number of x
abbrev pub x_number : ℕ → ℕ
x_number last = (third last).before.next

abbrev pub checked : ℕ → List ℕ → Checked
checked last name = record {
  mode = Ws1s;
  globals = map (global_made (at 6)) (set_names sets_start last);
  predicates = [];
  imports = [];
  exports = [];
  formulas = record { at = at (chain_start last + 1); item = 1; title = None; formula = chain_made last }
      ∷ record { at = at (free_start last + 1); item = 2; title = None; formula = free_made (x_number last) last }
      ∷ [];
  files = name ∷ [];
}

module _ (last : ℕ) (small : last ≤ 2000) where
  globals-seen : map (λ g. Some (global_of g)) (map (global_made (at 6)) (set_names sets_start last)) ≡ globals_of_source Ws1s (document last).declarations
  globals-seen =
      globals-are (at 6) (first last).scope (first last).before sets_start last refl
      ∙ sym (append-nil (globals_of_bounds (at 6) 0 (first last).scope 0 (first last).before (sets sets_start last)))

  imports-seen : [] ≡ imports_of_source Ws1s (document last).declarations
  imports-seen = sym (λ i.
      flat_map import_at (inside-sets (first last).scope 0 (first last).before sets_start last i)
      ++ ((chain-stands last small).harmless.imports i ++ ((free-stands last small).imports i ++ [])))

  exports-seen : [] ≡ exports_of_source Ws1s (document last).declarations
  exports-seen = sym (λ i.
      flat_map export_at (inside-sets (first last).scope 0 (first last).before sets_start last i)
      ++ ((chain-stands last small).harmless.exports i ++ ((free-stands last small).exports i ++ [])))

  abbrev one_formula : At → ℕ → Form → TypedFormula
  one_formula there item f = record { at = there; item = item; title = None; formula = f }

  formulas-seen : Some (one_formula (at (chain_start last + 1)) 1 (formula_of (chain_made last))) ∷ Some (one_formula (at (free_start last + 1)) 2 (formula_of (free_made (x_number last) last))) ∷ []
      ≡ formulas_of_source Ws1s (document last).declarations
  formulas-seen =
      (λ i. Some (one_formula (at (chain_start last + 1)) 1 (chain-is last i)) ∷ Some (one_formula (at (free_start last + 1)) 2 (free-made-is (x_number last) last i)) ∷ [])
      ∙ sym (λ i. option_map (one_formula (at (chain_start last + 1)) 1) (formula_in ((chain-stands last small).typed_is i))
      ∷ option_map (one_formula (at (free_start last + 1)) 2) (formula_in (free-is last small i)) ∷ [])

  module _ (name : List ℕ) where
    abbrev loaded : Loaded
    loaded = record { mode = Ws1s; items = (source last).items; files = name ∷ [] }

    pub is-typed : IsTyped loaded (checked last name)
    is-typed =
        let same = sym (items-viewed last) in
        record {
          mode = refl;
          globals_are = globals-seen ∙ ap (globals_of_source Ws1s) same;
          predicates_are = ap (predicates_of_source Ws1s) same;
          imports_are = imports-seen ∙ ap (imports_of_source Ws1s) same;
          exports_are = exports-seen ∙ ap (exports_of_source Ws1s) same;
          formulas_are = formulas-seen ∙ ap (formulas_of_source Ws1s) same;
          files = refl;
        }
