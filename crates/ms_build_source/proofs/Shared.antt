-- Formulas whose variables stand in their scopes, and numbers that rise.
use Rattle.std.proofs.Common.{◌≡◌, ℕ, zero, suc, ◌+◌, ◌<◌, ⊎_elim, List, [], ◌∷◌, map, slice_get, All, Some, refl, subst, arith}
use Rattle.std.proofs.lemmas.List.Elements.{All-cons, All-nil}
use Rattle.std.specs.List.{slice_index}
use Rattle.std.specs.List.Sorted.{IsStrictlyIncreasing}
use Rattle.ms_logic.specs.declared.mode.Order.{Order}
use Rattle.ms_logic.specs.Assignment.{Variable}
use Rattle.ms_logic_core.specs.CoreForm.{CoreForm, truth, falsity, basic, negation, conjunction, disjunction, implication, equivalence, restrict, imported, quantified, CoreForms, no_forms, more_forms, CoreRestriction, unrestricted, restricted}
use Rattle.ms_logic.specs.Lists.{AreRising, Each, IsAmong}
use Rattle.ms_logic_core.specs.Spread.{variables_of_import}
use Rattle.ms_logic_core.specs.Operands.{variables_at, variables_of_basic}
use Rattle.ms_logic.specs.Truth.{Import}
use Rattle.ms_lower.specs.Numbering.{Numbering, renumbered_variable}
use Rattle.ms_lower.specs.inner.Orders.{BoundHaveOrders, EachHasOrders, RestrictionHasOrders}
use Rattle.ms_logic_core.specs.Stands.{EachStands, RestrictionStands, Stands}
use Rattle.ms_dag.specs.Laws.{EachHasItsOrders, HasOrder, HaveTheirOrders, RestrictionHasItsOrders}

-- what holds of all in a scope holds of what is among them
among_has : (P : Variable → Type 0) (scope : List Variable) (v : Variable) → Each P scope → IsAmong scope v → P v
among_has P [] v each among = absurd among
among_has P (w ∷ ws) v each among = ⊎_elim (λ here. subst P here each.0) (λ later. among_has P ws v each.1 later) among

all_among : (P : Variable → Type 0) (scope vs : List Variable) → Each P scope → Each (IsAmong scope) vs → All P vs
all_among P scope [] each among = All-nil P
all_among P scope (v ∷ vs) each among = All-cons P v vs (among_has P scope v each among.0) (all_among P scope vs each among.1)

pub each_by : {X : Type 0} (P : X → Type 0) (xs : List X) → ((k : ℕ) (x : X) → slice_get xs k ≡ Some x → P x) → Each P xs
each_by P [] by = tt
each_by P (x ∷ xs) by = (by 0 x refl, each_by P xs (λ k y is. by (suc k) y is))

-- where the variables of a scope and those that are bound have their orders, all have
module _ (imports : List Import) (orders : List Order) where
  mutual
    pub all_ordered : (scope : List Variable) (f : CoreForm) → Each (HasOrder orders) scope → Stands imports scope f → BoundHaveOrders orders f → HaveTheirOrders imports orders f
    all_ordered scope truth each stands bound = tt
    all_ordered scope falsity each stands bound = tt
    all_ordered scope (basic b) each stands bound = all_among (HasOrder orders) scope (variables_of_basic b) each stands
    all_ordered scope (negation f) each stands bound = all_ordered scope f each stands bound
    all_ordered scope (conjunction fs) each stands bound = each_ordered scope fs each stands bound
    all_ordered scope (disjunction fs) each stands bound = each_ordered scope fs each stands bound
    all_ordered scope (implication f g) each stands bound = (all_ordered scope f each stands.0 bound.0, all_ordered scope g each stands.1 bound.1)
    all_ordered scope (equivalence f g) each stands bound = (all_ordered scope f each stands.0 bound.0, all_ordered scope g each stands.1 bound.1)
    all_ordered scope (restrict f) each stands bound = all_ordered scope f each stands bound
    all_ordered scope (imported i xs) each stands bound = all_among (HasOrder orders) scope (variables_at xs (variables_of_import (slice_get imports i))) each stands.1
    all_ordered scope (quantified q o x d f) each stands bound = (
      bound.0,
      restriction_ordered (record { name = x; order = o } ∷ scope) d (bound.0, each) stands.1 bound.1,
      all_ordered (record { name = x; order = o } ∷ scope) f (bound.0, each) stands.2 bound.2,
    )

    each_ordered : (scope : List Variable) (fs : CoreForms) → Each (HasOrder orders) scope → EachStands imports scope fs → EachHasOrders orders fs → EachHasItsOrders imports orders fs
    each_ordered scope no_forms each stands bound = tt
    each_ordered scope (more_forms f fs) each stands bound = (all_ordered scope f each stands.0 bound.0, each_ordered scope fs each stands.1 bound.1)

    restriction_ordered : (scope : List Variable) (d : CoreRestriction) → Each (HasOrder orders) scope → RestrictionStands imports scope d → RestrictionHasOrders orders d → RestrictionHasItsOrders imports orders d
    restriction_ordered scope unrestricted each stands bound = tt
    restriction_ordered scope (restricted d) each stands bound = all_ordered scope d each stands bound

-- variables that rise do so with greater numbers for greater ones
module _ (n : Numbering) (rises : (p o : Order) (x y : ℕ) → x < y → n.number p x < n.number o y) where
  abbrev new_names : List Variable → List ℕ
  new_names vs = map (λ v. v.name) (map (renumbered_variable n) vs)

  pub renumbered_rise : (vs : List Variable) → AreRising vs → IsStrictlyIncreasing (new_names vs)
  renumbered_rise [] rising k below = absurd (omega arith)
  renumbered_rise (v ∷ []) rising k below = absurd (omega arith)
  renumbered_rise (v ∷ w ∷ ws) rising zero below = rises v.order w.order v.name w.name rising.0
  renumbered_rise (v ∷ w ∷ ws) rising (suc k) below =
      let next : suc (k + 1) ≡ suc k + 1 = omega arith in
      subst (λ j. slice_index (new_names (v ∷ w ∷ ws)) (suc k) < slice_index (new_names (v ∷ w ∷ ws)) j) next (renumbered_rise (w ∷ ws) rising.1 k (omega arith))
