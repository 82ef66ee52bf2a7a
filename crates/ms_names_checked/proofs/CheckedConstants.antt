-- The constants and relations of a checked source are in range.
use Rattle.std.proofs.Common.{◌≡◌, ℕ, ◌+◌, List, [], ◌∷◌, map, refl, sym, subst, ◌∙◌, None, ◌++◌}
use Rattle.ms_list.specs.declared.at.At.{At as Place}
use Rattle.ms_logic.specs.declared.checked.Global.{Global}
use Rattle.ms_logic.specs.declared.mode.Mode.{Mode}
use Rattle.ms_logic.specs.declared.mode.Order.{Order}
use Rattle.ms_logic.specs.declared.mode.Order.TheVariants.{Zero, One, Two}
use Rattle.ms_logic.specs.Tree as tree
use Rattle.ms_logic.specs.View.{globals_from, predicate_of}
use Rattle.ms_logic.specs.declared.checked.Checked.{Checked}
use Rattle.ms_logic.specs.declared.source.Loaded.{Loaded}
use Rattle.ms_names_rules.specs.declared.meaning.Meaning.TheVariants as meaning
use Rattle.ms_names_rules.specs.Scope.{Bytes, Scope, bind, count_of_bounds, under_bounds, with_default, without_exports}
use Rattle.ms_parse_grammar.specs.Tree.{Expression, Variables, no_variables, and_variable, Domain, unrestricted, restricted, Declaration, variables, constant, predicate, included, default_restriction, formula, goal}
use Rattle.ms_names_rules.specs.Declarations.{Known, after_declaration, at_the_beginning, occurrences_in, occurrences_in_default, occurrences_in_predicate, with_readings, first_fault_of}
use Rattle.ms_names_rules.specs.Before.{Before, with_names, after_bounds}
use Rattle.ms_names_rules.specs.inner.Binder.{predicate_with, restricted_variable}
use Rattle.ms_logic.specs.Lists.{Each}
use Rattle.ms_names_rules.specs.Order.{formula_wanted}
use Rattle.ms_names_rules.specs.Occurrence.{occurrences, inside_bounds, inside_domain}
use Rattle.ms_names_rules.specs.Typed.{formula_in, typed, typed_domain}
use Rattle.ms_names_rules.specs.TypedSource.{IsTyped, TypedFormula, TypedGlobal, formulas_of, global_of, globals_of, globals_of_bounds, parameters_of_bounds, placed_formula_of, predicates_of, restriction_of_parameter, typed_default, typed_predicate}
use Rattle.ms_parse_grammar.specs.View.{declared_of}
use Rattle.ms_names_rules.proofs.Exports.{typed-same, under_bounds-same}
use Rattle.ms_names_rules.proofs.Fitting.{If, if-one, each-append}
use Rattle.ms_names_rules.proofs.Makes.{right-there}
use Rattle.ms_names_rules.proofs.Numbering.{if-two}
use Rattle.ms_names_rules.proofs.Orders.{AreRight, right-back, right-front}
use Rattle.ms_names_checked.specs.Constants.{HasConstantsInRange, IsArgumentInRange, IsDeclarationInRange, IsInRange, IsPredicateInRange, IsRestrictionInRange}
use Rattle.ms_names_checked.proofs.Collected.{each-formula, each-collected, each-kept, each-mapped}
use Rattle.ms_names_checked.proofs.InRange.{domain-in-range, formula-in-range, in-range, mode-bounds}

-- the mode stays

default-mode : (s : Scope) (o : Order) (p : ℕ) → (with_default o p s).mode ≡ s.mode
default-mode s Zero p = refl
default-mode s One p = refl
default-mode s Two p = refl

mode-after : (mode : Mode) (k : Known) (d : Declaration) → k.scope.mode ≡ mode → (after_declaration k d).scope.mode ≡ mode
mode-after mode k (variables vs) is = mode-bounds k.scope k.globals vs ∙ is
mode-after mode k (constant at n is) same = same
mode-after mode k (predicate is_pred at n vs e) is = is
mode-after mode k (included text_at file) is = is
mode-after mode k (default_restriction o n e) is = default-mode (with_readings (occurrences_in k (default_restriction o n e)) k.scope) o _ ∙ is
mode-after mode k (formula e) is = is
mode-after mode k (goal name_at title e) is = is

module _ (mode : Mode) where
  abbrev GlobalInRange : TypedGlobal → Type 0
  GlobalInRange g = IsRestrictionInRange mode g.restriction

  abbrev FormulaInRange : TypedFormula → Type 0
  FormulaInRange f = IsInRange mode f.formula

  kept-globals : (n : ℕ) (gs : List Global) → Each (λ (g : Global). GlobalInRange (global_of g)) gs → Each (IsDeclarationInRange mode) (globals_from n gs)
  kept-globals n [] h = tt
  kept-globals n (g ∷ gs) h = (h.0, kept-globals (n + 1) gs h.1)

  bounds-in-range : (at : Place) (item : ℕ) (s : Scope) (x : ℕ) (b : Before) (vs : Variables) → s.mode ≡ mode → AreRight (inside_bounds s x b vs) →
      Each (If GlobalInRange) (globals_of_bounds at item s x b vs)
  bounds-in-range at item s x b no_variables is h = tt
  bounds-in-range at item s x b (and_variable vs name_at o n d) is h =
      let y = x + count_of_bounds vs in
      let begin = after_bounds b vs in
      let inner = under_bounds s x (and_variable vs name_at o n d) in
      let before = inside_bounds s x b vs in
      let here = inside_domain (without_exports inner) begin d in
      each-append (If GlobalInRange) (globals_of_bounds at item s x b vs) _ (bounds-in-range at item s x b vs is (right-front before here h)) (
        if-one (IsRestrictionInRange mode) GlobalInRange (λ restriction. record { at = at; item = item; order = o; name = n; restriction = restriction })
            (typed_domain inner begin o y d) (λ r k. k) (domain-in-range mode inner begin o y d (mode-bounds s x (and_variable vs name_at o n d) ∙ is) (right-back before here h)),
        tt,
      )

  globals-in-range : (k : Known) (at : Place) (item : ℕ) (d : Declaration) → k.scope.mode ≡ mode → AreRight (occurrences_in k d) → Each (If GlobalInRange) (globals_of k at item d)
  globals-in-range k at item (variables vs) is h = bounds-in-range at item k.scope k.globals k.before vs is h
  globals-in-range k at item (constant name_at n is) same h = tt
  globals-in-range k at item (predicate is_pred name_at n vs e) is h = tt
  globals-in-range k at item (included text_at file) is h = tt
  globals-in-range k at item (default_restriction o n e) is h = tt
  globals-in-range k at item (formula e) is h = tt
  globals-in-range k at item (goal name_at title e) is h = tt

  parameter-in-range : (s : Scope) (b : Before) (d : Domain) → s.mode ≡ mode → AreRight (inside_domain (without_exports s) b d) → If (IsRestrictionInRange mode) (restriction_of_parameter s b d)
  parameter-in-range s b unrestricted is h = tt
  parameter-in-range s b (restricted e) is h =
      if-one (IsInRange mode) (IsRestrictionInRange mode) (λ f. tree.restricted f) (formula_in (typed s b e)) (λ f k. k)
      (formula-in-range mode (typed s b e) (subst (λ a. If (IsArgumentInRange mode) a) (typed-same (without_exports s) s b e refl) (in-range mode (without_exports s) b formula_wanted e is h)))

  -- the parameters of a list, as they are where no export may stand
  parameters-in-range : (s : Scope) (x : ℕ) (b : Before) (vs : Variables) → s.mode ≡ mode → AreRight (inside_bounds (without_exports s) x b vs) →
      If (Each (IsDeclarationInRange mode)) (parameters_of_bounds s x b vs)
  parameters-in-range s x b no_variables is h = tt
  parameters-in-range s x b (and_variable vs at o n d) is h =
      let y = x + count_of_bounds vs in
      let begin = after_bounds b vs in
      let inner = under_bounds s x (and_variable vs at o n d) in
      let outer = under_bounds (without_exports s) x (and_variable vs at o n d) in
      let before = inside_bounds (without_exports s) x b vs in
      let here = inside_domain (without_exports outer) begin d in
      let same : without_exports outer ≡ without_exports inner = under_bounds-same (without_exports s) s x (and_variable vs at o n d) refl in
      if-two (Each (IsDeclarationInRange mode)) (IsRestrictionInRange mode) (Each (IsDeclarationInRange mode)) (λ earlier r. earlier ++ restricted_variable y o r ∷ [])
      (parameters_of_bounds s x b vs) (restriction_of_parameter inner begin d)
      (λ earlier r i j. each-append (IsDeclarationInRange mode) earlier (restricted_variable y o r ∷ []) i (j, tt))
      (parameters-in-range s x b vs is (right-front before here h))
      (parameter-in-range inner begin d (mode-bounds s x (and_variable vs at o n d) ∙ is) (subst (λ scope. AreRight (inside_domain scope begin d)) same (right-back before here h)))

  predicate-in-range : (s : Scope) (b : Before) (vs : Variables) (e : Expression) → s.mode ≡ mode → AreRight (occurrences_in_predicate s b vs e) → If (IsPredicateInRange mode) (typed_predicate s b vs e)
  predicate-in-range s b vs e is h =
      let next = with_names b (count_of_bounds vs) in
      let end = after_bounds next vs in
      let outer = without_exports s in
      let inner = under_bounds outer b.next vs in
      let plain = under_bounds s b.next vs in
      let before = inside_bounds outer b.next next vs in
      let within = occurrences inner end formula_wanted e in
      if-two (Each (IsDeclarationInRange mode)) (IsInRange mode) (IsPredicateInRange mode) predicate_with (parameters_of_bounds s b.next next vs) (formula_in (typed plain end e)) (λ ps f i j. (i, j))
      (parameters-in-range s b.next next vs is (right-front before within h))
      (formula-in-range mode (typed plain end e) (subst (λ a. If (IsArgumentInRange mode) a) (typed-same inner plain end e (under_bounds-same outer s b.next vs refl))
      (in-range mode inner end formula_wanted e (mode-bounds outer b.next vs ∙ is) (right-back before within h))))

  default-in-range : (s : Scope) (b : Before) (o : Order) (n : Bytes) (e : Expression) → s.mode ≡ mode → AreRight (occurrences_in_default s b o n e) → If (IsPredicateInRange mode) (typed_default s b o n e)
  default-in-range s b o n e is h =
      let next = with_names b 1 in
      let inner = bind n (meaning.Variable b.next o) (without_exports s) in
      let plain = bind n (meaning.Variable b.next o) s in
      if-one (IsInRange mode) (IsPredicateInRange mode) (predicate_with (restricted_variable b.next o tree.unrestricted ∷ [])) (formula_in (typed plain next e)) (λ f i. ((tt, tt), i))
      (formula-in-range mode (typed plain next e) (subst (λ a. If (IsArgumentInRange mode) a) (typed-same inner plain next e refl) (in-range mode inner next formula_wanted e is h)))

  predicates-in-range : (k : Known) (d : Declaration) → k.scope.mode ≡ mode → AreRight (occurrences_in k d) → Each (If (IsPredicateInRange mode)) (predicates_of k d)
  predicates-in-range k (variables vs) is h = tt
  predicates-in-range k (constant at n is) same h = tt
  predicates-in-range k (predicate is_pred at n vs e) is h = (predicate-in-range k.scope k.before vs e is h, tt)
  predicates-in-range k (included text_at file) is h = tt
  predicates-in-range k (default_restriction o n e) is h = (default-in-range k.scope k.before o n e is h, tt)
  predicates-in-range k (formula e) is h = tt
  predicates-in-range k (goal name_at title e) is h = tt

  formulas-in-range : (k : Known) (at : Place) (item : ℕ) (d : Declaration) → k.scope.mode ≡ mode → AreRight (occurrences_in k d) → Each (If FormulaInRange) (formulas_of k at item d)
  formulas-in-range k at item d is h = each-formula (IsInRange mode) (λ d. AreRight (occurrences_in k d)) k held (λ name_at title. held) at item d h
    where
      held : (e : Expression) → AreRight (occurrences k.scope k.before formula_wanted e) → If (IsInRange mode) (formula_in (typed k.scope k.before e))
      held e right = formula-in-range mode (typed k.scope k.before e) (in-range mode k.scope k.before formula_wanted e is right)

pub constants-in-range : (loaded : Loaded) (checked : Checked) → IsTyped loaded checked → first_fault_of loaded.mode (map declared_of loaded.items) ≡ None → HasConstantsInRange checked
constants-in-range loaded checked typed right =
    let ds = map declared_of loaded.items in
    let mode = checked.mode in
    let k = at_the_beginning loaded.mode ds in
    let I : Known → Type 0 = λ k. k.scope.mode ≡ mode in
    let start : I k = sym typed.mode in
    let gs = each-collected (λ k item d. globals_of k d.at item d.declaration) (If (GlobalInRange mode)) I (mode-after mode)
    (λ k item d is none. globals-in-range mode k d.at item d.declaration is (right-there k d.declaration none)) k 0 ds start right in
    let ps = each-collected (λ k item d. predicates_of k d.declaration) (If (IsPredicateInRange mode)) I (mode-after mode)
    (λ k item d is none. predicates-in-range mode k d.declaration is (right-there k d.declaration none)) k 0 ds start right in
    let fs = each-collected (λ k item d. formulas_of k d.at item d.declaration) (If (FormulaInRange mode)) I (mode-after mode)
    (λ k item d is none. formulas-in-range mode k d.at item d.declaration is (right-there k d.declaration none)) k 0 ds start right in
    record {
      globals = kept-globals mode 0 checked.globals
          (each-kept (GlobalInRange mode) global_of checked.globals (subst (λ xs. Each (If (GlobalInRange mode)) xs) (sym typed.globals_are) gs));
      predicates = each-mapped (IsPredicateInRange mode) predicate_of checked.predicates
          (each-kept (IsPredicateInRange mode) predicate_of checked.predicates (subst (λ xs. Each (If (IsPredicateInRange mode)) xs) (sym typed.predicates_are) ps));
      formulas = each-kept (FormulaInRange mode) placed_formula_of checked.formulas (subst (λ xs. Each (If (FormulaInRange mode)) xs) (sym typed.formulas_are) fs);
    }
