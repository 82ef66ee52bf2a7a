-- A relation lacks nodes only below the budget of its step.
use Rattle.std.proofs.Common.{◌≡◌, ℕ, ◌<◌, ◌==◌, ◌+◌, ◌^◌, ◌&&◌, Bool, if◌then◌else◌, ⊎_elim, List, length, slice_index, refl, sym, ap, ap₂, ◌∙◌, arith}
use Rattle.std.proofs.lemmas.Bool.{cases_lt, eq-eqb, ne_eqb}
use Rattle.std.proofs.lemmas.List.Kept.{AllPairs-from_increasing}
use Rattle.std.specs.List.Sorted.{IsStrictlyIncreasing}
use Rattle.ms_basic.specs.States.{states_of}
use Rattle.ms_basic_parts.proofs.Budgets.{relations_are_within_budget}
use Rattle.ms_dag.specs.Places.{AreBelow}
use Rattle.ms_dag.specs.Unfolds.{names_of_basic, renamed}
use Rattle.ms_logic_core.specs.declared.core_formula.Basic.{Basic}
use Rattle.ms_logic_core.specs.declared.core_formula.Basic.TheVariants.{Truth, Number, Plus, Less, Member, Sub, Union, Inter, Diff, Up, Down, Min, Max, Bits}
use Rattle.ms_logic_measures.specs.Steps.{relation}
use Rattle.ms_build_steps.specs.Laws.{RelationsAreBelowTheirSteps}
use Rattle.ms_build_steps.proofs.StepKinds.{below_itself, itself_there}

module _ (names : List ℕ) (rising : IsStrictlyIncreasing names) where
  abbrev name : ℕ → ℕ
  name x = slice_index names x

  -- different numbers have different names
  apart : (x y : ℕ) → x < y → y < length names → (name x == name y) ≡ (x == y)
  apart x y less within =
      let above = AllPairs-from_increasing names rising x y 0 less within in
      ne_eqb (name x) (name y) (λ same. omega (arith, above, same)) ∙ sym (ne_eqb x y (λ same. omega (arith, less, same)))

  turned : (x y : ℕ) → y < x → x < length names → (name x == name y) ≡ (x == y)
  turned x y less within =
      let above = AllPairs-from_increasing names rising y x 0 less within in
      ne_eqb (name x) (name y) (λ same. omega (arith, above, same)) ∙ sym (ne_eqb x y (λ same. omega (arith, less, same)))

  same_test : (x y : ℕ) → x < length names → y < length names → (name x == name y) ≡ (x == y)
  same_test x y first second = ⊎_elim
      (λ less. apart x y less second)
      (λ at_least. ⊎_elim
      (λ more. turned x y more first)
      (λ at_most. let same : x ≡ y = omega (arith, at_least, at_most) in eq-eqb (name x) (name y) (ap name same) ∙ sym (eq-eqb x y same))
      (cases_lt y x))
      (cases_lt x y)

  -- so a relation has as many states under the names
  same_states : (b : Basic) → AreBelow (length names) (names_of_basic b) → states_of (renamed name b) ≡ states_of b
  same_states (Truth a) below = refl
  same_states (Number x n) below = refl
  same_states (Plus x y n) below = ap (λ (test : Bool). if test then 3 else n + 6) (same_test x y (below 0 0 (omega arith)) (below 1 0 (omega arith)))
  same_states (Less x y) below = ap (λ (test : Bool). if test then 3 else 6) (same_test x y (below 0 0 (omega arith)) (below 1 0 (omega arith)))
  same_states (Member x s) below = refl
  same_states (Sub s t) below = ap (λ (test : Bool). if test then 1 else 2) (same_test s t (below 0 0 (omega arith)) (below 1 0 (omega arith)))
  same_states (Union s t u) below = ap₂ (λ (one other : Bool). if one && other then 1 else 2) (same_test s t (below 0 0 (omega arith)) (below 1 0 (omega arith))) (same_test t u (below 1 0 (omega arith)) (below 2 0 (omega arith)))
  same_states (Inter s t u) below = ap₂ (λ (one other : Bool). if one && other then 1 else 2) (same_test s t (below 0 0 (omega arith)) (below 1 0 (omega arith))) (same_test t u (below 1 0 (omega arith)) (below 2 0 (omega arith)))
  same_states (Diff s t u) below = refl
  same_states (Up s t n) below = ap (λ (test : Bool). if test then (if n == 0 then 1 else 2) else 2 ^ n + 1) (same_test s t (below 0 0 (omega arith)) (below 1 0 (omega arith)))
  same_states (Down s t n) below = ap (λ (test : Bool). if test then (if n == 0 then 1 else 2) else 2 ^ (n + 1)) (same_test s t (below 0 0 (omega arith)) (below 1 0 (omega arith)))
  same_states (Min x s) below = refl
  same_states (Max x s) below = refl
  same_states (Bits s n) below = refl

pub relations_are_below_their_steps : RelationsAreBelowTheirSteps
relations_are_below_their_steps imports whole f plan orders names i b rising below steps lacks = (
  relation (renamed (slice_index names) b),
  steps,
  below_itself imports plan.mode plan.limit (relation (renamed (slice_index names) b)) itself_there
      (λ files m r measure.
      let own = same_states names rising b below in
      let needs = relations_are_within_budget plan.mode (renamed (slice_index names) b) m r measure in
      omega (arith, own, needs, lacks)),
)
