-- Where the variables of a core formula stand: each in the scope of its binder, and a bound variable has a greater number than those
-- in scope.
use Rattle.std.specs.Prelude.{◌≡◌, ◌<◌, List, ◌∷◌, length, slice_get}
use Rattle.ms_logic.specs.Assignment.{Variable}
use Rattle.ms_logic_core.specs.CoreForm.{CoreForm, truth, falsity, basic, negation, conjunction, disjunction, implication, equivalence, restrict, imported, quantified, CoreForms, no_forms, more_forms, CoreRestriction, unrestricted, restricted}
use Rattle.ms_logic_core.specs.Spread.{variables_of_import}
use Rattle.ms_logic_core.specs.Operands.{variables_of_basic, variables_at}
use Rattle.ms_logic.specs.Truth.{Import}
use Rattle.ms_logic.specs.Lists.{Each, IsAmong}

abbrev mutual
  pub Stands : List Import → List Variable → CoreForm → Type 0
  Stands imports scope truth = Unit {0}
  Stands imports scope falsity = Unit {0}
  Stands imports scope (basic b) = Each (IsAmong scope) (variables_of_basic b)
  Stands imports scope (negation f) = Stands imports scope f
  Stands imports scope (conjunction fs) = EachStands imports scope fs
  Stands imports scope (disjunction fs) = EachStands imports scope fs
  Stands imports scope (implication f g) = Stands imports scope f × Stands imports scope g
  Stands imports scope (equivalence f g) = Stands imports scope f × Stands imports scope g
  Stands imports scope (restrict f) = Stands imports scope f
  Stands imports scope (imported i xs) =
      (length xs ≡ length (variables_of_import (slice_get imports i)))
      × Each (IsAmong scope) (variables_at xs (variables_of_import (slice_get imports i)))
  Stands imports scope (quantified q o x d f) =
      Each (λ v. v.name < x) scope
      × RestrictionStands imports (record { name = x; order = o } ∷ scope) d
      × Stands imports (record { name = x; order = o } ∷ scope) f

  pub EachStands : List Import → List Variable → CoreForms → Type 0
  EachStands imports scope no_forms = Unit {0}
  EachStands imports scope (more_forms f fs) = Stands imports scope f × EachStands imports scope fs

  pub RestrictionStands : List Import → List Variable → CoreRestriction → Type 0
  RestrictionStands imports scope unrestricted = Unit {0}
  RestrictionStands imports scope (restricted d) = Stands imports scope d
