-- Bounded search.
use Rattle.std.proofs.Common.{◌≡◌, ℕ, ◌<◌, ◌≤◌, zero, suc, ◌⊎◌, inl, inr, ⊎_elim, subst, arith}
use Rattle.std.proofs.lemmas.Bool.{cases_lt}

-- it holds of each number below a bound, or fails of one
below-or : (P : ℕ → Type 0) → ((j : ℕ) → P j ⊎ ¬ P j) → (n : ℕ) → ((j : ℕ) → j < n → P j) ⊎ ((j : ℕ) × ¬ P j)
below-or P test zero = inl (λ j below. absurd (omega (arith, below)))
below-or P test (suc n) =
    ⊎_elim (λ each. ⊎_elim (λ here. inl (λ j below. ⊎_elim (each j) (λ above. let is : n ≡ j = omega (arith, above, below) in subst P is here) (cases_lt j n))) (λ fails. inr (n, fails)) (test n))
    (λ found. inr found) (below-or P test n)

-- what holds from a bound on holds of each number, or fails of one
pub each-or : (P : ℕ → Type 0) → ((j : ℕ) → P j ⊎ ¬ P j) → (n : ℕ) → ((j : ℕ) → n ≤ j → P j) → ((j : ℕ) → P j) ⊎ ((j : ℕ) × ¬ P j)
each-or P test n beyond =
    ⊎_elim (λ each. inl (λ j. ⊎_elim (each j) (beyond j) (cases_lt j n))) (λ found. inr found) (below-or P test n)

pub equal-or : (a b : ℕ) → (a ≡ b) ⊎ ¬ (a ≡ b)
equal-or a b =
    ⊎_elim (λ below. inr (λ same. omega arith)) (λ above. ⊎_elim (λ below. inr (λ same. omega arith)) (λ above'. inl (omega arith)) (cases_lt b a)) (cases_lt a b)
