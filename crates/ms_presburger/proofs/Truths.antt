-- The laws of truth over numbers.
use Rattle.std.proofs.Common.{ℕ, ⊎_elim, List, [], ◌∷◌}
use Rattle.ms_presburger.specs.Numbers.{Valuation, with_number, AtSome, AtAll, Holds}
use Rattle.ms_presburger.specs.Tree.{Arithmetic}
use Rattle.ms_presburger.specs.inner.Laws.{AllIsDual}
use Rattle.ms_presburger.proofs.Deciding.{truth-is-decided}

module _ (f : Arithmetic) where
  none-fails : (names : List (List ℕ)) (v : Valuation) → AtAll names (λ w. Holds f w) v → AtSome names (λ w. ¬ Holds f w) v → ⊥
  none-fails [] v all some = some all
  none-fails (x ∷ names) v all some = none-fails names (with_number x some.0 v) (all some.0) some.1

  all-hold : (names : List (List ℕ)) (v : Valuation) → (AtSome names (λ w. ¬ Holds f w) v → ⊥) → AtAll names (λ w. Holds f w) v
  all-hold [] v none = ⊎_elim (λ held. held) (λ fails. absurd (none fails)) (truth-is-decided f v)
  all-hold (x ∷ names) v none = λ n. all-hold names (with_number x n v) (λ some. none (n, some))

pub all-is-dual : AllIsDual
all-is-dual names f v = (none-fails f names v, all-hold f names v)
