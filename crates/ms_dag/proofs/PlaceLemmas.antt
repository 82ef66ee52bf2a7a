-- Items at places.
use Rattle.std.proofs.Common.{◌≡◌, ℕ, zero, suc, ◌+◌, ◌<◌, List, [], ◌∷◌, ◌++◌, length, map, get_or, slice_get, slice_index, Contains, Some, refl, sym, ◌∙◌, ap, subst, ⊎_elim, arith}
use Rattle.std.proofs.lemmas.Bool.{cases_lt}
use Rattle.std.proofs.lemmas.List.{length-map, map-append, get_or_default}
use Rattle.std.proofs.lemmas.List.Elements.{Contains-append_cases, Contains-append_left, Contains-append_right}
use Rattle.std.proofs.lemmas.List.Kept.{AllPairs-from_increasing}
use Rattle.std.proofs.lemmas.Option.{slice_get_within, slice_get-get_or, slice_get-map, same_Some}
use Rattle.std.specs.List.Sorted.{IsStrictlyIncreasing}
use Rattle.std.specs.Option.{option_map}
use Rattle.ms_logic.specs.declared.mode.Order.{Order}
use Rattle.ms_logic_core.specs.Orders.{order_at}
use Rattle.ms_dag.specs.declared.node.Child.{Child}
use Rattle.ms_dag.specs.Dag.{places_in_maps}
use Rattle.ms_dag.specs.Laws.{HaveOrders}
use Rattle.ms_dag.specs.inner.Maps.{AreTheSameIn}
use Rattle.ms_dag.specs.Places.{AreAt, AreBelow, picked}
use Rattle.ms_dag.proofs.RisingLemmas.{rising_not_down}

module _ {X : Type 0} (items : List X) where
  pub AreAt-length : (places : List ℕ) (given : List X) → AreAt items places given → length places ≡ length given
  AreAt-length places given at = sym (length-map places (slice_get items)) ∙ ap length at ∙ length-map given Some

  pub AreAt-head : (p : ℕ) (places : List ℕ) (g : X) (given : List X) → AreAt items (p ∷ places) (g ∷ given) → slice_get items p ≡ Some g
  AreAt-head p places g given at = let first : slice_get items p ≡ Some g = cc in first

  pub AreAt-tail : (p : ℕ) (places : List ℕ) (g : X) (given : List X) → AreAt items (p ∷ places) (g ∷ given) → AreAt items places given
  AreAt-tail p places g given at = let others : map (slice_get items) places ≡ map Some given = cc in others

  -- the item at each place
  pub AreAt-at : (places : List ℕ) (given : List X) → AreAt items places given → (k : ℕ) (d : X) → k < length places → slice_get items (get_or places k 0) ≡ Some (get_or given k d)
  AreAt-at [] given at k d below = absurd (omega arith)
  AreAt-at (p ∷ places) [] at k d below = absurd (let never : ⊥ = cc in never)
  AreAt-at (p ∷ places) (g ∷ given) at zero d below = AreAt-head p places g given at
  AreAt-at (p ∷ places) (g ∷ given) at (suc k) d below = AreAt-at places given (AreAt-tail p places g given at) k d (omega arith)

  pub AreAt-within : (places : List ℕ) (given : List X) → AreAt items places given → AreBelow (length items) places
  AreAt-within [] given at k d below = absurd (omega arith)
  AreAt-within (p ∷ places) [] at k d below = absurd (let never : ⊥ = cc in never)
  AreAt-within (p ∷ places) (g ∷ given) at zero d below = slice_get_within items p g (AreAt-head p places g given at)
  AreAt-within (p ∷ places) (g ∷ given) at (suc k) d below = AreAt-within places given (AreAt-tail p places g given at) k d (omega arith)

pub slice_index-is : (xs : List ℕ) (i x : ℕ) → slice_get xs i ≡ Some x → slice_index xs i ≡ x
slice_index-is xs i x held = same_Some _ _ (sym (slice_get-get_or xs i 0 (slice_get_within xs i x held)) ∙ held)

pub AreAt-picked : (names places given : List ℕ) → AreAt names places given → picked names places ≡ given
AreAt-picked names [] [] at = refl
AreAt-picked names [] (g ∷ given) at = absurd (let never : ⊥ = cc in never)
AreAt-picked names (p ∷ places) [] at = absurd (let never : ⊥ = cc in never)
AreAt-picked names (p ∷ places) (g ∷ given) at =
    let first = slice_index-is names p g (AreAt-head names p places g given at) in
    let others = AreAt-picked names places given (AreAt-tail names p places g given at) in cc

-- what stands at places of places
module _ {X : Type 0} (f : ℕ → X) (among : List ℕ) where
  one_place : (p x : ℕ) → slice_get among p ≡ Some x → slice_get (map f among) p ≡ Some (f x)
  one_place p x at = slice_get-map f among p ∙ ap (option_map f) at

  AreAt-mapped : (places names : List ℕ) → AreAt among places names → AreAt (map f among) places (map f names)
  AreAt-mapped [] [] at = refl
  AreAt-mapped [] (x ∷ names) at = absurd (let never : ⊥ = cc in never)
  AreAt-mapped (p ∷ places) [] at = absurd (let never : ⊥ = cc in never)
  AreAt-mapped (p ∷ places) (x ∷ names) at =
      let first = one_place p x (AreAt-head among p places x names at) in
      let others = AreAt-mapped places names (AreAt-tail among p places x names at) in cc

-- the orders of names
module _ (orders : List Order) where
  pub HaveOrders-length : (names : List ℕ) (own : List Order) → HaveOrders orders names own → length names ≡ length own
  HaveOrders-length names own have = sym (length-map names (order_at orders)) ∙ ap length have

  pub HaveOrders-push : (names : List ℕ) (own : List Order) (x : ℕ) (o : Order) → HaveOrders orders names own → order_at orders x ≡ o → HaveOrders orders (names ++ x ∷ []) (own ++ o ∷ [])
  HaveOrders-push names own x o have next =
      map-append (order_at orders) names (x ∷ []) ∙ ap (λ front. front ++ order_at orders x ∷ []) have ∙ ap (λ last. own ++ last ∷ []) next

  module _ (among : List ℕ) (inner : List Order) (outer : HaveOrders orders among inner) where
    pub own_order : (p x : ℕ) (o : Order) → slice_get among p ≡ Some x → order_at orders x ≡ o → slice_get inner p ≡ Some o
    own_order p x o at held = ap (λ list. slice_get list p) (sym outer) ∙ one_place (order_at orders) among p x at ∙ ap Some held

    pub AreAt-inner : (places names : List ℕ) (given : List Order) → AreAt among places names → HaveOrders orders names given → AreAt inner places given
    AreAt-inner places names given at have =
        subst (λ list. AreAt list places given) outer (subst (λ list. AreAt (map (order_at orders) among) places list) have (AreAt-mapped (order_at orders) among places names at))

module _ (among : List ℕ) (rising : IsStrictlyIncreasing among) where
  -- places of rising numbers rise
  pub places_rise : (places names : List ℕ) → IsStrictlyIncreasing names → AreAt among places names → IsStrictlyIncreasing places
  places_rise places names up at k below =
      let long = AreAt-length among places names at in
      let first = slice_index-is among (get_or places k 0) (get_or names k 0) (AreAt-at among places names at k 0 (omega arith)) in
      let second = slice_index-is among (get_or places (k + 1) 0) (get_or names (k + 1) 0) (AreAt-at among places names at (k + 1) 0 below) in
      let within = slice_get_within among (get_or places k 0) (get_or names k 0) (AreAt-at among places names at k 0 (omega arith)) in
      let less : get_or names k 0 < get_or names (k + 1) 0 = up k (omega arith) in
      ⊎_elim (λ right. right) (λ wrong. let down = rising_not_down among rising (get_or places (k + 1) 0) (get_or places k 0) wrong within in absurd (omega arith))
      (cases_lt (get_or places k 0) (get_or places (k + 1) 0))

  -- a number stands at one place
  pub one_place_only : (i j x : ℕ) → slice_get among i ≡ Some x → slice_get among j ≡ Some x → i ≡ j
  one_place_only i j x first second =
      let left = slice_index-is among i x first in
      let right = slice_index-is among j x second in
      ⊎_elim (λ less. let up : get_or among i 0 < get_or among j 0 = AllPairs-from_increasing among rising i j 0 less (slice_get_within among j x second) in absurd (omega arith))
      (λ at_least. ⊎_elim (λ more. let up : get_or among j 0 < get_or among i 0 = AllPairs-from_increasing among rising j i 0 more (slice_get_within among i x first) in absurd (omega arith))
      (λ at_most. omega arith) (cases_lt j i)) (cases_lt i j)

  -- a number among those at some places, at its own place
  pub place_there : (places names : List ℕ) (j x : ℕ) → AreAt among places names → slice_get among j ≡ Some x → Contains names x → Contains places j
  place_there places names j x at held (k, below, is) =
      let long = AreAt-length among places names at in
      let stands = AreAt-at among places names at k x (omega arith) in
      let same_place : get_or places k 0 ≡ j = one_place_only (get_or places k 0) j x (stands ∙ ap Some is) held in
      (k, omega arith, get_or_default places k j 0 (omega arith) ∙ same_place)

  -- a variable in the maps of some children stands at its place in those of the placed ones
  pub placed_place : (parts placed : List Child) (j x : ℕ) → AreTheSameIn among parts placed → slice_get among j ≡ Some x → Contains (places_in_maps parts) x → Contains (places_in_maps placed) j
  placed_place [] [] j x same at there = absurd (omega (arith, there.1))
  placed_place [] (c ∷ cs) j x same at there = absurd same
  placed_place (p ∷ ps) [] j x same at there = absurd same
  placed_place (p ∷ ps) (c ∷ cs) j x same at there =
      ⊎_elim (λ here. Contains-append_left c.map (places_in_maps cs) j (place_there c.map p.map j x same.0.places at here))
      (λ later. Contains-append_right c.map (places_in_maps cs) j (placed_place ps cs j x same.1 at later)) (Contains-append_cases p.map (places_in_maps ps) x there)
