use Rattle.std.proofs.Common.{◌≡◌, ℕ, zero, suc, ◌<◌, [], ◌∷◌, slice_get, Some, refl, ap, arith}
use Rattle.std.proofs.lemmas.Option.{same_Some}
use Rattle.ms_project.proofs.examples.worked_truth.Goals as goal

pub returns-clause-truth : goal.returns-clause-truth
returns-clause-truth c = record { one = refl; yes = refl }

pub returns-clause-never : goal.returns-clause-never
returns-clause-never c = λ is. let yes = is.yes in let never : ⊥ = cc in never

pub returns-clause-own : goal.returns-clause-own
returns-clause-own c = record { long = refl; own = by }
  where
    by : (number : ℕ) → number < 2 → slice_get {X = ℕ × ℕ} ((0, 0) ∷ (1, 0) ∷ []) number ≡ Some (number, 0)
    by zero less = refl
    by (suc zero) less = refl
    by (suc (suc number)) less = absurd (omega (arith, less))

pub returns-clause-too_many : goal.returns-clause-too_many
returns-clause-too_many c = λ is. let long = is.long in omega (arith, long)

pub returns-clause-turned_round : goal.returns-clause-turned_round
returns-clause-turned_round c = λ is. let first = is.own 0 (omega arith) in let zero_is : 1 ≡ 0 = ap (λ (p : ℕ × ℕ). p.0) (same_Some (1, 0) (0, 0) first) in omega (arith, zero_is)
