-- The variables by places of a relation and of an import: they have different numbers, and the relation, or the import, is over them.
use Rattle.std.proofs.Common.{◌≡◌, ℕ, suc, ◌+◌, List, [], ◌∷◌, length, map, slice_get, refl, sym, ap, subst, ◌∙◌}
use Rattle.std.specs.List.{zip, range_with_len}
use Rattle.std.proofs.lemmas.List.FromFn.{length-range_with_len}
use Rattle.ms_logic.specs.Assignment.{Variable}
use Rattle.ms_logic.specs.FiniteSet.{numbers_below}
use Rattle.ms_logic.specs.Lists.{IsAmong}
use Rattle.ms_logic.specs.Truth.{Import}
use Rattle.ms_logic.specs.declared.mode.Order.{Order}
use Rattle.ms_logic_core.specs.CoreForm.{basic, imported}
use Rattle.ms_logic_core.specs.Operands.{at_places, variables_at, variables_of_basic}
use Rattle.ms_logic_core.specs.Spread.{variables_of_import}
use Rattle.ms_logic_core.specs.declared.core_formula.Basic.{Basic}
use Rattle.ms_logic_core.specs.declared.core_formula.Basic.TheVariants.{Truth, Number, Plus, Less, Member, Sub, Union, Inter, Diff, Up, Down, Min, Max, Bits}
use Rattle.ms_logic_readers.specs.Scoped.{AreDistinct, IsOver}
use Rattle.ms_logic_measures.specs.Budgets.{pair_variables}
use Rattle.ms_logic_measures.specs.CallMeasures.{place_variables}
use Rattle.ms_logic_words.specs.Content.{variables_by_place, variables_from}
use Rattle.ms_logic_readers.proofs.Places.{by_place_distinct}
use Rattle.ms_source_steps.proofs.Distinct.{in_sorted, sorted_distinct, variables_in}

abbrev orders_of : List Variable → List Order
orders_of vs = map (λ (v : Variable). v.order) vs

abbrev names_of : List Variable → List ℕ
names_of vs = map (λ (v : Variable). v.name) vs

-- a relation between its places has these by their orders
places_of : (b : Basic) → variables_of_basic (at_places b) ≡ variables_by_place (orders_of (variables_of_basic b))
places_of (Truth a) = refl
places_of (Number x n) = refl
places_of (Plus x y n) = refl
places_of (Less x y) = refl
places_of (Member x s) = refl
places_of (Sub s t) = refl
places_of (Union s t u) = refl
places_of (Inter s t u) = refl
places_of (Diff s t u) = refl
places_of (Up s t n) = refl
places_of (Down s t n) = refl
places_of (Min x s) = refl
places_of (Max x s) = refl
places_of (Bits s n) = refl

-- variables by their places, with the numbers of others of the same orders
abbrev numbered : ℕ → List Variable → List (ℕ × Variable)
numbered place vs = zip (names_of vs) (variables_from place (orders_of vs))

variables_numbered : (place : ℕ) (vs : List Variable) → variables_in (numbered place vs) ≡ variables_from place (orders_of vs)
variables_numbered place [] = refl
variables_numbered place (v ∷ vs) = ap (λ (us : List Variable). record { name = place; order = v.order } ∷ us) (variables_numbered (place + 1) vs)

pub place_variables_distinct : (b : Basic) → AreDistinct (place_variables b)
place_variables_distinct b =
    let own = variables_of_basic b in
    sorted_distinct (numbered 0 own) (subst AreDistinct (sym (variables_numbered 0 own)) (by_place_distinct 0 (orders_of own)))

pub relation_over : (imports : List Import) (b : Basic) → IsOver imports (place_variables b) (basic (at_places b))
relation_over imports b v among =
    let own = variables_of_basic b in
    in_sorted (numbered 0 own) v (subst (λ (vs : List Variable). IsAmong vs v) (places_of b ∙ sym (variables_numbered 0 own)) among)

-- an import at the places of its pairs
at_numbers : (base : ℕ) (vs : List Variable) → variables_at (range_with_len base (length (variables_from base (orders_of vs)))) vs ≡ variables_from base (orders_of vs)
at_numbers base [] = refl
at_numbers base (v ∷ vs) = ap (λ (us : List Variable). record { name = base; order = v.order } ∷ us) (at_numbers (base + 1) vs)

as_many : (base : ℕ) (vs : List Variable) → length (variables_from base (orders_of vs)) ≡ length vs
as_many base [] = refl
as_many base (v ∷ vs) = ap suc (as_many (base + 1) vs)

pub pair_variables_distinct : (imports : List Import) (i : ℕ) → AreDistinct (pair_variables imports i)
pair_variables_distinct imports i = by_place_distinct 0 (orders_of (variables_of_import (slice_get imports i)))

pub import_over : (imports : List Import) (i : ℕ) → IsOver imports (pair_variables imports i) (imported i (numbers_below (length (pair_variables imports i))))
import_over imports i =
    let own = variables_of_import (slice_get imports i) in (
      length-range_with_len 0 (length (pair_variables imports i)) ∙ as_many 0 own,
      λ v among. subst (λ (vs : List Variable). IsAmong vs v) (at_numbers 0 own) among,
    )
