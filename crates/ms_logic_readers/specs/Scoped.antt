-- Core formulas over a list of variables: each variable that stands in the formula is in the list, or is bound around.
use Rattle.std.specs.Prelude.{◌≡◌, List, [], ◌∷◌, ◌++◌, length, slice_get}
use Rattle.ms_logic.specs.Assignment.{Variable}
use Rattle.ms_logic.specs.Lists.{IsAmong, without}
use Rattle.ms_logic.specs.Truth.{Import}
use Rattle.ms_logic_core.specs.CoreForm.{CoreForm, truth, falsity, basic, negation, conjunction, disjunction, implication, equivalence, restrict, imported, quantified, CoreForms, no_forms, more_forms, CoreRestriction, unrestricted, restricted}
use Rattle.ms_logic_core.specs.Operands.{variable, variables_at, variables_of_basic}
use Rattle.ms_logic_core.specs.Spread.{variables_of_import}

-- no two of the variables have one number
abbrev pub AreDistinct : List Variable → Type 0
AreDistinct [] = Unit {0}
AreDistinct (v ∷ vs) = ((w : Variable) → IsAmong vs w → w.name ≡ v.name → ⊥) × AreDistinct vs

-- the variables with a bound one as the last, which hides one with its number
abbrev pub with_bound : List Variable → Variable → List Variable
with_bound variables x = without x.name variables ++ x ∷ []

abbrev mutual
  pub IsOver : List Import → List Variable → CoreForm → Type 0
  IsOver imports variables truth = Unit {0}
  IsOver imports variables falsity = Unit {0}
  IsOver imports variables (basic b) = (v : Variable) → IsAmong (variables_of_basic b) v → IsAmong variables v
  IsOver imports variables (negation f) = IsOver imports variables f
  IsOver imports variables (conjunction fs) = AreOver imports variables fs
  IsOver imports variables (disjunction fs) = AreOver imports variables fs
  IsOver imports variables (implication f g) = IsOver imports variables f × IsOver imports variables g
  IsOver imports variables (equivalence f g) = IsOver imports variables f × IsOver imports variables g
  IsOver imports variables (restrict f) = IsOver imports variables f
  -- an import stands at as many variables as it has, of the same orders
  IsOver imports variables (imported i xs) =
      (length xs ≡ length (variables_of_import (slice_get imports i)))
      × ((v : Variable) → IsAmong (variables_at xs (variables_of_import (slice_get imports i))) v → IsAmong variables v)
  IsOver imports variables (quantified q o x d f) =
      IsRestrictionOver imports (with_bound variables (variable x o)) d × IsOver imports (with_bound variables (variable x o)) f

  pub AreOver : List Import → List Variable → CoreForms → Type 0
  AreOver imports variables no_forms = Unit {0}
  AreOver imports variables (more_forms f fs) = IsOver imports variables f × AreOver imports variables fs

  pub IsRestrictionOver : List Import → List Variable → CoreRestriction → Type 0
  IsRestrictionOver imports variables unrestricted = Unit {0}
  IsRestrictionOver imports variables (restricted d) = IsOver imports variables d
