-- The `==` of lists is equality where that of the items is, and strictly rising lists with the same items are equal.
use Rattle.std.proofs.Common.{◌≡◌, ℕ, zero, suc, ◌+◌, ◌<◌, ◌⊎◌, Bool, true, nat_eq, List, [], ◌∷◌, get_or, Contains, refl, sym, subst, inl, inr, ⊎_elim, arith}
use Rattle.std.proofs.lemmas.Bool.{eqb-true, eq-eqb, and_from}
use Rattle.std.proofs.lemmas.List.Kept.{AllPairs-from_increasing}
use Rattle.std.specs.Cmp.Lexicographic.{pointwise}
pub use Rattle.ms_diagram.specs.inner.Equal.{same_list}
use Rattle.std.specs.List.Sorted.{IsStrictlyIncreasing}

module _ {X : Type 0} (eq : X → X → Bool) where
  pub list_itself : ((x : X) → eq x x ≡ true) → (xs : List X) → pointwise eq xs xs ≡ true
  list_itself itself [] = refl
  list_itself itself (x ∷ xs) = and_from (eq x x) (pointwise eq xs xs) (itself x) (list_itself itself xs)

-- at numbers
pub same_set : (xs ys : List ℕ) → pointwise nat_eq xs ys ≡ true → xs ≡ ys
same_set = same_list nat_eq eqb-true

pub set_itself : (xs : List ℕ) → pointwise nat_eq xs xs ≡ true
set_itself = list_itself nat_eq (λ x. eq-eqb x x refl)

module _ {X : Type 0} where
  -- an item of a longer list is its first one or one of the others
  pub Contains-cases : (x : X) (xs : List X) (item : X) → Contains (x ∷ xs) item → (item ≡ x) ⊎ Contains xs item
  Contains-cases x xs item (zero, within, at) = inl (sym at)
  Contains-cases x xs item (suc k, within, at) = inr (k, omega arith, at)

  pub Contains-first : (x : X) (xs : List X) → Contains (x ∷ xs) x
  Contains-first x xs = (0, omega arith, refl)

  pub Contains-rest : (x : X) (xs : List X) (item : X) → Contains xs item → Contains (x ∷ xs) item
  Contains-rest x xs item there = (suc there.0, omega (arith, there.1), there.2)

  pub Contains-none : (item : X) → Contains [] item → ⊥
  Contains-none item there = omega (arith, there.1)

-- the first of a strictly rising list is below the others
rising_below : (x : ℕ) (xs : List ℕ) → IsStrictlyIncreasing (x ∷ xs) → (item : ℕ) → Contains xs item → x < item
rising_below x xs rising item there =
    let below = AllPairs-from_increasing (x ∷ xs) rising 0 (suc there.0) item (omega arith) (omega (arith, there.1)) in
    subst (λ other. x < other) there.2 below

rising_rest : (x : ℕ) (xs : List ℕ) → IsStrictlyIncreasing (x ∷ xs) → IsStrictlyIncreasing xs
rising_rest x xs rising k within =
    let next : suc k + 1 ≡ suc (k + 1) = omega arith in
    subst (λ place. get_or xs k 0 < get_or (x ∷ xs) place 0) next (rising (suc k) (omega arith))

-- strictly rising lists with the same items are equal
pub same_rising : (xs ys : List ℕ) → IsStrictlyIncreasing xs → IsStrictlyIncreasing ys → ((item : ℕ) → Contains xs item → Contains ys item)
    → ((item : ℕ) → Contains ys item → Contains xs item) → xs ≡ ys
same_rising [] [] rising_xs rising_ys there back = refl
same_rising [] (y ∷ ys) rising_xs rising_ys there back = absurd (Contains-none y (back y (Contains-first y ys)))
same_rising (x ∷ xs) [] rising_xs rising_ys there back = absurd (Contains-none x (there x (Contains-first x xs)))
same_rising (x ∷ xs) (y ∷ ys) rising_xs rising_ys there back =
    let first : x ≡ y = ⊎_elim (λ same. same)
    (λ later. ⊎_elim (λ same. sym same)
    (λ also. let one = rising_below y ys rising_ys x later in let two = rising_below x xs rising_xs y also in absurd (omega arith))
    (Contains-cases x xs y (back y (Contains-first y ys))))
    (Contains-cases y ys x (there x (Contains-first x xs))) in
    let rest = same_rising xs ys (rising_rest x xs rising_xs) (rising_rest y ys rising_ys)
    (λ item in_xs. ⊎_elim (λ same. let above = rising_below x xs rising_xs item in_xs in absurd (omega (arith, same, first)))
    (λ in_ys. in_ys) (Contains-cases y ys item (there item (Contains-rest x xs item in_xs))))
    (λ item in_ys. ⊎_elim (λ same. let above = rising_below y ys rising_ys item in_ys in absurd (omega (arith, same, first)))
    (λ in_xs. in_xs) (Contains-cases x xs item (back item (Contains-rest y ys item in_ys)))) in
    λ i. first i ∷ rest i
