-- A list with one item for each number below a bound.
use Rattle.std.proofs.Common.{◌≡◌, ℕ, zero, suc, ◌<◌, List, [], ◌∷◌, length, refl, arith}
use Rattle.ms_logic_starts.specs.inner.Row.{EachIsRight}

module _ {A : Type 0} where
  one_more : (n : ℕ) (P : ℕ → A → Type 0) (first : A) (items : List A) → P 0 first → EachIsRight n (λ i. P (suc i)) items → EachIsRight (suc n) P (first ∷ items)
  one_more n P first items here later zero other below = here
  one_more n P first items here later (suc i) other below = later i other (omega (arith, below))

  pub tabulated : (n : ℕ) (P : ℕ → A → Type 0) → ((i : ℕ) → i < n → (item : A) × P i item) → (items : List A) × (length items ≡ n) × EachIsRight n P items
  tabulated zero P choose = ([], refl, λ i other below. absurd (omega (arith, below)))
  tabulated (suc n) P choose =
      let first = choose 0 (omega arith) in
      let rest = tabulated n (λ i. P (suc i)) (λ i below. choose (suc i) (omega (arith, below))) in
      let long = rest.1 in
      (first.0 ∷ rest.0, omega (arith, long), one_more n P first.0 rest.0 first.1 rest.2)
