use Rattle.std.proofs.Common.{[], ◌∷◌, refl, inl, inr, ⊎_elim, arith}
use Rattle.ms_logic.specs.inner.Examples.{var_x, var_y, less, variable}
use Rattle.ms_logic.specs.declared.mode.Order.TheVariants.{One}
use Rattle.ms_logic_core.proofs.examples.spreads.worked_roots.Goals as goal

pub returns-clause-export : goal.returns-clause-export
returns-clause-export c = (
  less var_y var_x,
  variable 0 One ∷ variable 1 One ∷ [],
  (0, omega arith, refl),
  record {
    rising = (omega arith, (tt, tt));
    free = λ w. (λ listed. ⊎_elim (λ x. inr x) (λ more. ⊎_elim (λ y. inl y) (λ none. absurd none) more) listed, λ free. ⊎_elim (λ y. inr (inl y)) (λ x. inl x) free);
  },
  refl,
)
