-- So many numbers below a bound that differ are no more than the bound, by the pigeonhole principle.
use Rattle.std.proofs.Common.{◌≡◌, ℕ, ◌<◌, ◌≤◌, ◌⊎◌, inl, inr, subst, arith}
use Rattle.std.proofs.lemmas.Bool.{cases_lt}
use Rattle.std_collections.proofs.IndexTableLemmas.Probe.{pigeonhole}

module _ (n m : ℕ) (R : ℕ → ℕ → Type 0) (choose : (i : ℕ) → i < n → (v : ℕ) × (v < m) × R i v) where
  chosen_by : (i : ℕ) → (i < n) ⊎ (n ≤ i) → ℕ
  chosen_by i (inl less) = (choose i less).0
  chosen_by i (inr past) = 0

  chosen_is : (i : ℕ) → i < n → (at : (i < n) ⊎ (n ≤ i)) → (chosen_by i at < m) × R i (chosen_by i at)
  unfolding chosen_by
  chosen_is i less (inl also) = ((choose i also).1, (choose i also).2)
  chosen_is i less (inr past) = absurd (omega (arith, less, past))

  -- a relation gives each number below the first bound one below the second, and none to two
  pub counted : ((i j v : ℕ) → i < n → j < n → R i v → R j v → i ≡ j) → n ≤ m
  counted apart =
      pigeonhole n m (λ i. chosen_by i (cases_lt i n)) (λ i less. (chosen_is i less (cases_lt i n)).0)
      (λ i j less_i less_j same. apart i j (chosen_by j (cases_lt j n)) less_i less_j
      (subst (R i) same (chosen_is i less_i (cases_lt i n)).1) (chosen_is j less_j (cases_lt j n)).1)
