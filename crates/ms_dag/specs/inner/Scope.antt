-- Core formulas whose variables are in scope, by their numbers, and have one order each.
use Rattle.std.specs.Prelude.{ℕ, List, ◌∷◌, map, All, Contains}
use Rattle.std.specs.List.Sorted.{IsStrictlyIncreasing}
use Rattle.ms_logic_core.specs.declared.core_formula.Core.{Core}
use Rattle.ms_logic_core.specs.declared.core_formula.Root.{Root}
use Rattle.ms_logic.specs.declared.mode.Order.{Order}
use Rattle.ms_logic.specs.Assignment.{Variable}
use Rattle.ms_logic_core.specs.CoreForm.{CoreForm, truth, falsity, basic, negation, conjunction, disjunction, implication, equivalence, restrict, imported, quantified, CoreForms, no_forms, more_forms, CoreRestriction, unrestricted, restricted, core_form_of, core_forms}
use Rattle.ms_logic_core.specs.Operands.{variable, variables_of_basic}
use Rattle.ms_logic_core.specs.Calls.{Calls, filled}
use Rattle.ms_dag.specs.Laws.{HasOrder}
use Rattle.ms_dag.specs.Places.{AreBelow}

-- the variables of the formula are among those in scope, and those of relations have their orders. The number of a bound variable is greater than
-- those in scope, and it is bound with its order.
abbrev mutual
  pub IsInScope : List Order → List ℕ → CoreForm → Type 0
  IsInScope orders scope truth = Unit {0}
  IsInScope orders scope falsity = Unit {0}
  IsInScope orders scope (basic b) = All (λ (v : Variable). Contains scope v.name × HasOrder orders v) (variables_of_basic b)
  IsInScope orders scope (negation f) = IsInScope orders scope f
  IsInScope orders scope (conjunction fs) = AreInScope orders scope fs
  IsInScope orders scope (disjunction fs) = AreInScope orders scope fs
  IsInScope orders scope (implication f g) = IsInScope orders scope f × IsInScope orders scope g
  IsInScope orders scope (equivalence f g) = IsInScope orders scope f × IsInScope orders scope g
  IsInScope orders scope (restrict f) = IsInScope orders scope f
  IsInScope orders scope (imported i xs) = All (Contains scope) xs
  IsInScope orders scope (quantified q o x d f) =
      AreBelow x scope × HasOrder orders (variable x o)
      × IsRestrictionInScope orders (x ∷ scope) d × IsInScope orders (x ∷ scope) f

  pub AreInScope : List Order → List ℕ → CoreForms → Type 0
  AreInScope orders scope no_forms = Unit {0}
  AreInScope orders scope (more_forms f fs) = IsInScope orders scope f × AreInScope orders scope fs

  pub IsRestrictionInScope : List Order → List ℕ → CoreRestriction → Type 0
  IsRestrictionInScope orders scope unrestricted = Unit {0}
  IsRestrictionInScope orders scope (restricted d) = IsInScope orders scope d

-- the formulas of some operands
abbrev pub forms_of : List Core → CoreForms
forms_of operands = core_forms (map core_form_of operands)

-- a root over a rising list of variables, its free ones among them, where calls stand for core formulas
pub record IsRootInScope (calls : Calls) (orders : List Order) (root : Root) : Type 0 where
  pub rising : IsStrictlyIncreasing root.variables
  pub formula : IsInScope orders root.variables (filled calls (core_form_of root.core))
