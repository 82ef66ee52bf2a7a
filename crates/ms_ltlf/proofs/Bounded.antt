-- Bounded search.
use Rattle.std.proofs.Common.{◌≡◌, ℕ, ◌<◌, zero, suc, ◌⊎◌, inl, inr, ⊎_elim, subst, arith}
use Rattle.std.proofs.lemmas.Bool.{cases_lt}

-- what holds of each number below n, and of n, holds of each number below the next
one_more : (B : ℕ → Type 0) (n : ℕ) → ((j : ℕ) → j < n → B j) → B n → (j : ℕ) → j < suc n → B j
one_more B n below here j within =
    ⊎_elim (below j) (λ above. let same : n ≡ j = omega arith in subst B same here) (cases_lt j n)

-- where one of two facts holds of each number below n, the first holds of some, or the second of each
pub some_or_each : (A B : ℕ → Type 0) (n : ℕ) → ((j : ℕ) → j < n → A j ⊎ B j) → ((j : ℕ) × (j < n) × A j) ⊎ ((j : ℕ) → j < n → B j)
some_or_each A B zero each = inr (λ j below. absurd (omega (arith, below)))
some_or_each A B (suc n) each =
    ⊎_elim (λ found. inl (found.0, omega (arith, found.1), found.2))
    (λ below. ⊎_elim (λ here. inl (n, omega arith, here)) (λ here. inr (one_more B n below here)) (each n (omega arith)))
    (some_or_each A B n (λ j below. each j (omega (arith, below))))
