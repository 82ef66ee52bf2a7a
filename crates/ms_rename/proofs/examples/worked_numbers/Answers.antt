use Rattle.std.proofs.Common.{◌≡◌, ap, inl, inr, ⊎_elim, refl, ◌∙◌}
use Rattle.ms_logic.specs.declared.mode.Order.TheVariants.{Zero, One, Two}
use Rattle.ms_logic.specs.Assignment.{Variable}
use Rattle.ms_rename.proofs.examples.worked_numbers.Goals as goal

pub returns-clause-none : goal.returns-clause-none
returns-clause-none c = λ v among. absurd among

pub returns-clause-sets : goal.returns-clause-sets
returns-clause-sets c = λ v among one.
    ⊎_elim (λ first. let is : Two ≡ One = ap (λ (w : Variable). w.order) first ∙ one in let never : ⊥ = cc in never)
    (λ rest. ⊎_elim (λ second. let is : Zero ≡ One = ap (λ (w : Variable). w.order) second ∙ one in let never : ⊥ = cc in never) (λ none. none) rest)
    among

pub returns-clause-one : goal.returns-clause-one
returns-clause-one c = λ has. has (record { name = 1; order = One }) (inr (inl refl)) refl
