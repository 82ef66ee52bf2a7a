-- The subformulas of a core formula: the formula itself, and those of its operands, bodies and restrictions.
use Rattle.std.specs.Prelude.{◌≡◌, ◌⊎◌}
use Rattle.ms_logic_core.specs.CoreForm.{CoreForm, truth, falsity, basic, negation, conjunction, disjunction, implication, equivalence, restrict, imported, quantified, CoreForms, no_forms, more_forms, CoreRestriction, unrestricted, restricted}

-- the first formula is a subformula of the second
abbrev mutual
  pub IsSubformula : CoreForm → CoreForm → Type 0
  IsSubformula f truth = f ≡ truth
  IsSubformula f falsity = f ≡ falsity
  IsSubformula f (basic b) = f ≡ basic b
  IsSubformula f (negation g) = (f ≡ negation g) ⊎ IsSubformula f g
  IsSubformula f (conjunction gs) = (f ≡ conjunction gs) ⊎ IsSubformulaOfOne f gs
  IsSubformula f (disjunction gs) = (f ≡ disjunction gs) ⊎ IsSubformulaOfOne f gs
  IsSubformula f (implication g h) = (f ≡ implication g h) ⊎ (IsSubformula f g ⊎ IsSubformula f h)
  IsSubformula f (equivalence g h) = (f ≡ equivalence g h) ⊎ (IsSubformula f g ⊎ IsSubformula f h)
  IsSubformula f (restrict g) = (f ≡ restrict g) ⊎ IsSubformula f g
  IsSubformula f (imported i xs) = f ≡ imported i xs
  IsSubformula f (quantified q o x d g) = (f ≡ quantified q o x d g) ⊎ (IsSubformulaOfRestriction f d ⊎ IsSubformula f g)

  pub IsSubformulaOfOne : CoreForm → CoreForms → Type 0
  IsSubformulaOfOne f no_forms = ⊥
  IsSubformulaOfOne f (more_forms g gs) = IsSubformula f g ⊎ IsSubformulaOfOne f gs

  pub IsSubformulaOfRestriction : CoreForm → CoreRestriction → Type 0
  IsSubformulaOfRestriction f unrestricted = ⊥
  IsSubformulaOfRestriction f (restricted d) = IsSubformula f d
