-- Variables in the order of some numbers are in the order of other numbers that keep theirs.
use Rattle.std.proofs.Common.{◌≡◌, ℕ, nat_le, ⊎_elim, Bool, true, false, if◌then◌else◌, List, [], ◌∷◌, map, refl, ap, ap₂, subst, ◌∙◌, arith}
use Rattle.std.specs.List.{zip}
use Rattle.std.proofs.lemmas.Bool.{cases_lt}
use Rattle.std.proofs.lemmas.Bool.Decides.{nat_tests}
use Rattle.ms_build_steps.proofs.Imports.{orders_from}
use Rattle.ms_dfa.proofs.OrdersLemmas.{orders_of}
use Rattle.ms_logic.specs.Assignment.{Variable}
use Rattle.ms_logic.specs.Lists.{Each, IsAmong}
use Rattle.ms_logic.specs.declared.mode.Order.{Order}
use Rattle.ms_logic_core.specs.Operands.{variable, variables_at, variables_of_basic}
use Rattle.ms_logic_core.specs.declared.core_formula.Basic.{Basic}
use Rattle.ms_logic_measures.specs.CallMeasures.{in_order_of, inserted, place_variables, sorted}
use Rattle.ms_logic_words.specs.Content.{variables_by_place}
use Rattle.ms_lower.specs.Numbering.{Numbering, renumbered_basic}
use Rattle.ms_source_steps.proofs.Numbers.{NumbersRise, moved_all, moved_basic, push_map}
use Rattle.ms_source_steps.proofs.Scopes.{AreApart}

module _ (n : Numbering) (rise : NumbersRise n) (scope : List Variable) (apart : AreApart scope) where
  -- a variable that stands for one of this order under a number, and under the new number
  abbrev moved_pair : ℕ × Variable → ℕ × Variable
  moved_pair p = (n.number p.1.order p.0, p.1)

  abbrev IsIn : ℕ × Variable → Type 0
  IsIn p = IsAmong scope (variable p.0 p.1.order)

  le_moved : (p q : ℕ × Variable) → IsIn p → IsIn q → nat_le (n.number p.1.order p.0) (n.number q.1.order q.0) ≡ nat_le p.0 q.0
  le_moved p q first second = ⊎_elim
      (λ less. let above = rise p.1.order q.1.order p.0 q.0 less in grind (arith, nat_tests, above, less))
      (λ at_least. ⊎_elim
      (λ more. let above = rise q.1.order p.1.order q.0 p.0 more in grind (arith, nat_tests, above, more))
      (λ at_most.
      let same : p.0 ≡ q.0 = omega (arith, at_least, at_most) in
      let moved_same : n.number p.1.order p.0 ≡ n.number q.1.order q.0 = ap (λ (u : Variable). n.number u.order u.name) (apart (variable p.0 p.1.order) (variable q.0 q.1.order) first second same) in
      grind (arith, nat_tests, same, moved_same))
      (cases_lt q.0 p.0))
      (cases_lt p.0 q.0)

  inserted_in : (p : ℕ × Variable) (ps : List (ℕ × Variable)) → IsIn p → Each IsIn ps → Each IsIn (inserted p.0 p.1 ps)
  inserted_in p [] one each = (one, tt)
  inserted_in p (q ∷ ps) one each = by_test (nat_le p.0 q.0) (inserted_in p ps one each.1)
    where
      by_test : (b : Bool) → Each IsIn (inserted p.0 p.1 ps) → Each IsIn (if b then p ∷ (q ∷ ps) else q ∷ inserted p.0 p.1 ps)
      by_test true later = (one, each)
      by_test false later = (each.0, later)

  sorted_in : (ps : List (ℕ × Variable)) → Each IsIn ps → Each IsIn (sorted ps)
  sorted_in [] each = tt
  sorted_in (p ∷ ps) each = inserted_in p (sorted ps) each.0 (sorted_in ps each.1)

  inserted_moved : (p : ℕ × Variable) (ps : List (ℕ × Variable)) → IsIn p → Each IsIn ps → inserted (n.number p.1.order p.0) p.1 (map moved_pair ps) ≡ map moved_pair (inserted p.0 p.1 ps)
  inserted_moved p [] one each = refl
  inserted_moved p (q ∷ ps) one each =
      ap₂ (λ (test : Bool) (others : List (ℕ × Variable)). if test then moved_pair p ∷ (moved_pair q ∷ map moved_pair ps) else moved_pair q ∷ others) (le_moved p q one each.0) (inserted_moved p ps one each.1)
      ∙ push_map moved_pair (nat_le p.0 q.0) (p ∷ (q ∷ ps)) (q ∷ inserted p.0 p.1 ps)

  sorted_moved : (ps : List (ℕ × Variable)) → Each IsIn ps → sorted (map moved_pair ps) ≡ map moved_pair (sorted ps)
  sorted_moved [] each = refl
  sorted_moved (p ∷ ps) each = ap (inserted (n.number p.1.order p.0) p.1) (sorted_moved ps each.1) ∙ inserted_moved p (sorted ps) each.0 (sorted_in ps each.1)

  seconds : (ps : List (ℕ × Variable)) → map (λ p. p.1) (map moved_pair ps) ≡ map (λ p. p.1) ps
  seconds [] = refl
  seconds (p ∷ ps) = ap (λ (vs : List Variable). p.1 ∷ vs) (seconds ps)

  of_pairs : (ps : List (ℕ × Variable)) → Each IsIn ps → map (λ p. p.1) (sorted (map moved_pair ps)) ≡ map (λ p. p.1) (sorted ps)
  of_pairs ps each = ap (λ (qs : List (ℕ × Variable)). map (λ p. p.1) qs) (sorted_moved ps each) ∙ seconds (sorted ps)

  -- the variables at which an import stands
  zip_moved : (xs : List ℕ) (own vs : List Variable) → orders_of vs ≡ orders_of own → zip (map (λ p. n.number p.1.order p.0) (zip xs own)) vs ≡ map moved_pair (zip xs vs)
  zip_moved [] own vs same = refl
  zip_moved (x ∷ xs) [] [] same = refl
  zip_moved (x ∷ xs) [] (v ∷ vs) same = let never : ⊥ = cc in absurd never
  zip_moved (x ∷ xs) (w ∷ own) [] same = let never : ⊥ = cc in absurd never
  zip_moved (x ∷ xs) (w ∷ own) (v ∷ vs) same =
      let first : w.order ≡ v.order = cc in
      let more : orders_of vs ≡ orders_of own = cc in
      ap₂ (λ (o : Order) (ps : List (ℕ × Variable)). (n.number o x, v) ∷ ps) first (zip_moved xs own vs more)

  zip_in : (xs : List ℕ) (own vs : List Variable) → orders_of vs ≡ orders_of own → Each (IsAmong scope) (variables_at xs own) → Each IsIn (zip xs vs)
  zip_in [] own vs same each = tt
  zip_in (x ∷ xs) own [] same each = tt
  zip_in (x ∷ xs) [] (v ∷ vs) same each = let never : ⊥ = cc in absurd never
  zip_in (x ∷ xs) (w ∷ own) (v ∷ vs) same each =
      let first : w.order ≡ v.order = cc in
      let more : orders_of vs ≡ orders_of own = cc in
      (subst (λ o. IsAmong scope (variable x o)) first each.0, zip_in xs own vs more each.1)

  pub in_order_moved : (xs : List ℕ) (own vs : List Variable) → orders_of vs ≡ orders_of own → Each (IsAmong scope) (variables_at xs own)
      → in_order_of (map (λ p. n.number p.1.order p.0) (zip xs own)) vs ≡ in_order_of xs vs
  in_order_moved xs own vs same each = ap (λ (ps : List (ℕ × Variable)). map (λ p. p.1) (sorted ps)) (zip_moved xs own vs same) ∙ of_pairs (zip xs vs) (zip_in xs own vs same each)

  -- the variables of a relation
  names_moved : (own vs : List Variable) → orders_of vs ≡ orders_of own → zip (map (λ (v : Variable). v.name) (moved_all n own)) vs ≡ map moved_pair (zip (map (λ (v : Variable). v.name) own) vs)
  names_moved [] vs same = refl
  names_moved (w ∷ own) [] same = let never : ⊥ = cc in absurd never
  names_moved (w ∷ own) (v ∷ vs) same =
      let first : w.order ≡ v.order = cc in
      let more : orders_of vs ≡ orders_of own = cc in
      ap₂ (λ (o : Order) (ps : List (ℕ × Variable)). (n.number o w.name, v) ∷ ps) first (names_moved own vs more)

  names_in : (own vs : List Variable) → orders_of vs ≡ orders_of own → Each (IsAmong scope) own → Each IsIn (zip (map (λ (v : Variable). v.name) own) vs)
  names_in [] vs same each = tt
  names_in (w ∷ own) [] same each = tt
  names_in (w ∷ own) (v ∷ vs) same each =
      let first : w.order ≡ v.order = cc in
      let more : orders_of vs ≡ orders_of own = cc in
      (subst (λ o. IsAmong scope (variable w.name o)) first each.0, names_in own vs more each.1)

  moved_same_orders : (vs : List Variable) → orders_of (moved_all n vs) ≡ orders_of vs
  moved_same_orders [] = refl
  moved_same_orders (v ∷ vs) = ap (λ (os : List Order). v.order ∷ os) (moved_same_orders vs)

  pub places_moved : (b : Basic) → Each (IsAmong scope) (variables_of_basic b) → place_variables (renumbered_basic n b) ≡ place_variables b
  places_moved b each =
      let own = variables_of_basic b in
      let places = variables_by_place (orders_of own) in
      ap (λ (vs : List Variable). in_order_of (map (λ (v : Variable). v.name) vs) (variables_by_place (orders_of vs))) (moved_basic n b)
      ∙ ap (λ (os : List Order). in_order_of (map (λ (v : Variable). v.name) (moved_all n own)) (variables_by_place os)) (moved_same_orders own)
      ∙ ap (λ (ps : List (ℕ × Variable)). map (λ p. p.1) (sorted ps)) (names_moved own places (orders_from 0 (orders_of own)))
      ∙ of_pairs (zip (map (λ (v : Variable). v.name) own) places) (names_in own places (orders_from 0 (orders_of own)) each)
