-- A call that stands as an import becomes the body of its predicate, as it is spread there.
use Rattle.std.proofs.Common.{◌≡◌, ℕ, ◌+◌, ◌-◌, ◌<◌, ◌≤◌, cond, max, List, [], ◌∷◌, ◌++◌, length, map, slice_get, Some, inl, inr, ⊎_elim, refl, sym, ap, ap₂, subst, ◌∙◌, arith}
use Rattle.std.proofs.lemmas.Bool.{le-ltb}
use Rattle.std.specs.List.{zip}
use Rattle.ms_logic.specs.declared.mode.Order.{Order}
use Rattle.ms_logic.specs.declared.mode.Order.TheVariants.{Zero}
use Rattle.ms_logic.specs.Assignment.{Variable}
use Rattle.ms_logic_core.specs.CoreForm.{imported}
use Rattle.ms_logic.specs.FreeVariables.{IsBound, names_of, parameter_orders_of}
use Rattle.ms_logic_core.specs.Spread.{Names, callees_of, is_order, own_names, variables_of_import}
use Rattle.ms_logic.specs.Tree.{Declaration, Predicate}
use Rattle.ms_logic.specs.Truth.{Given}
use Rattle.ms_lower.specs.Lowered.{reads_of}
use Rattle.ms_lower.specs.Numbering.{number_at, renumbered}
use Rattle.ms_lower.proofs.FormScopes.{named_or}
use Rattle.ms_lower.proofs.TermScopes.{variable}
use Rattle.ms_lower.specs.Calling.{called_at, calling_numbers, calls_of, free_at, names_at, plain_numbers, spread_number_of}
use Rattle.ms_lower.specs.Numbering.{variables_of_call}
use Rattle.ms_build_source.specs.inner.CallLaws.{NameFollows}
use Rattle.ms_build_source.proofs.FilledForms.{Keeps}
use Rattle.ms_build_source.proofs.FilledTerms.{Filling, Fills}
use Rattle.ms_build_source.proofs.PredicateNames.{bodies_follow}
use Rattle.ms_build_source.proofs.Renumbering.{free_above, kept_moves, moved, moved_number, moves_free, numbers_with, spread_moves, twice_is}

-- how the calls of a source are filled in
abbrev pub filling_of : ℕ → ℕ → Given → Filling
filling_of kept globals given = record {
  number = number_at kept globals;
  kept = kept;
  globals = globals;
  calling = (calling_numbers kept globals given).imported;
  plain = (plain_numbers kept globals given).imported;
  calls = calls_of globals given;
}

-- what is named at a call: the numbers of the answer of the parameters, and the first that is free
abbrev pub numbers_called : (Order → ℕ → ℕ) → List Declaration → Names → ℕ → List ℕ
numbers_called number ds names free = map (λ d. number d.variable.order (names d.variable.order d.variable.name)) ds ++ number Zero free ∷ []

zip_called : (number : Order → ℕ → ℕ) (ds : List Declaration) (names : Names) (free : ℕ) →
    map (λ p. number p.1.order p.0) (zip (map (λ d. names d.variable.order d.variable.name) ds ++ free ∷ []) (map (λ d. d.variable) ds ++ variable 0 Zero ∷ [])) ≡ numbers_called number ds names free
zip_called number [] names free = refl
zip_called number (d ∷ ds) names free = ap (λ ys. number d.variable.order (names d.variable.order d.variable.name) ∷ ys) (zip_called number ds names free)

module _ (kept globals : ℕ) (within : kept ≤ globals) where
  -- the parameters have their moved numbers, and the other variables their own
  names_follow : (known : ℕ → List Variable) (ds : List Declaration) (names : Names) (free : ℕ) (w : Variable) →
      ((¬ IsBound (map (λ d. d.variable.name) ds) (map (λ d. d.variable.order) ds) w) → NameFollows (numbers_with known (moved kept globals)) names own_names w) →
      NameFollows (numbers_with known (moved kept globals)) names (names_at globals ds (numbers_called (number_at kept globals) ds names free)) w
  names_follow known [] names free w others = others (λ e. e)
  names_follow known (d ∷ ds) names free w others =
      let o = d.variable.order in
      let x = d.variable.name in
      let y = number_at kept globals o (names o x) in
      let before = names_at globals ds (numbers_called (number_at kept globals) ds names free) in
      elim (named_or o x (spread_number_of globals y) before w (is_order o w.order) refl) [
        | inl here ↦
            ap (λ v. v.name) here.1
            ∙ (spread_moves kept globals within o (names o x)
            ∙ ap₂ (λ p z. moved kept globals p (names p z)) (sym here.0.1) (sym here.0.0))
        | inr away ↦ ap (λ v. v.name) away.1 ∙ names_follow known ds names free w (λ out. others (λ bound. ⊎_elim away.0 out bound))
      ]

  -- the first number that is free in the call is the moved one
  free_moves : (ds : List Declaration) (names : Names) (free : ℕ) → kept ≤ free → free_at globals ds (numbers_called (number_at kept globals) ds names free) ≡ moved kept globals Zero free
  free_moves [] names free above = ap (λ y. max globals y) (spread_moves kept globals within Zero free) ∙ free_above kept globals within free above
  free_moves (d ∷ ds) names free above = free_moves ds names free above

  -- a call of a predicate
  pub call_fills : (given : Given) (p : ℕ) (q : Predicate) (orders : List Order) (names : Names) (free : ℕ) → slice_get given.predicates p ≡ Some q → (callees_of given).parameters p ≡ names_of q → parameter_orders_of q ≡ orders →
      kept ≤ free → ((w : Variable) → (reads_of given).called p orders w → w.name < globals) → Keeps (filling_of kept globals given) ((reads_of given).called p orders) names →
      Fills (filling_of kept globals given) (imported (length given.imports + p) (map (λ d. names d.variable.order d.variable.name) q.parameters ++ free ∷ [])) ((callees_of given).body p names free)
  call_fills given p q orders names free known parameters fits above global keeps =
      let count = length given.imports in
      let xs = map (λ d. names d.variable.order d.variable.name) q.parameters ++ free ∷ [] in
      let ys = numbers_called (number_at kept globals) q.parameters names free in
      let imports : ℕ → List Variable = λ i. variables_of_import (slice_get given.imports i) in
      let n = numbers_with imports (moved kept globals) in
      let beyond = le-ltb (count + p) count (omega arith) in
      let index : count + p - count ≡ p = omega arith in
      let found : slice_get given.predicates (count + p - count) ≡ Some q = ap (slice_get given.predicates) index ∙ known in
      let named_there : (filling_of kept globals given).calling (count + p) ≡ variables_of_call (Some q) =
      ap (λ b. cond b (imports (count + p)) (variables_of_call (slice_get given.predicates (count + p - count)))) beyond ∙ ap variables_of_call found in
      let numbers : map (λ v. number_at kept globals v.1.order v.0) (zip xs ((filling_of kept globals given).calling (count + p))) ≡ ys =
      ap (λ vs. map (λ v. number_at kept globals v.1.order v.0) (zip xs vs)) named_there ∙ zip_called (number_at kept globals) q.parameters names free in
      let called : calls_of globals given (count + p) ys ≡ called_at globals given p (Some q) ys =
      ap (λ b. cond b (imported (count + p) ys) (called_at globals given (count + p - count) (slice_get given.predicates (count + p - count)) ys)) beyond
      ∙ ap₂ (λ j o. called_at globals given j o ys) index found in
      let bound_follow : (w : Variable) → IsBound ((callees_of given).parameters p) orders w → NameFollows n names (names_at globals q.parameters ys) w =
      λ w bound. names_follow imports q.parameters names free w (λ out.
      let P : List ℕ → Type 0 = λ zs. IsBound zs orders w in
      let Q : List Order → Type 0 = λ os. IsBound (names_of q) os w in
      absurd (out (subst Q (sym fits) (subst P parameters bound)))) in
      let reads_follow : (w : Variable) → (reads_of given).called p orders w → NameFollows n names (names_at globals q.parameters ys) w =
      λ w read. names_follow imports q.parameters names free w (λ out.
      let is = keeps w read (global w read) in
      sym (ap (moved kept globals w.order) is.0 ∙ kept_moves kept globals within w.order w.name is.1)) in
      ap (calls_of globals given (count + p)) numbers
      ∙ (called
      ∙ (ap (λ next. renumbered (plain_numbers globals globals given) ((callees_of given).body p (names_at globals q.parameters ys) next)) (free_moves q.parameters names free above)
      ∙ (ap (renumbered (plain_numbers globals globals given))
      (bodies_follow given n p orders names (names_at globals q.parameters ys) free (moved kept globals Zero free) (λ i. refl) (moves_free kept globals within free above) bound_follow reads_follow)
      ∙ twice_is imports (number_at globals globals) (moved kept globals) (number_at kept globals) (moved_number kept globals within) ((callees_of given).body p names free))))
