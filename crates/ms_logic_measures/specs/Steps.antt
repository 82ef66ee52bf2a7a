-- The steps of a source: what has to be done for it, one part of a core formula after the other.
use Rattle.std.specs.Prelude.{◌≡◌, ℕ, ◌<◌, ◌⊎◌, nat_lt, ◌==◌, if◌then◌else◌, List, [], ◌∷◌, ◌++◌, length, slice_get, Contains}
use Rattle.ms_logic_core.specs.declared.core_formula.Basic.{Basic}
use Rattle.ms_logic.specs.Assignment.{Variable}
use Rattle.ms_logic_core.specs.CoreForm.{CoreForm, truth, falsity, basic, negation, conjunction, disjunction, implication, equivalence, restrict, imported, quantified, CoreForms, no_forms, more_forms, CoreRestriction, unrestricted, restricted, core_forms}
use Rattle.ms_logic_core.specs.Roots.{Root, IsRoot}
use Rattle.ms_logic_core.specs.Spread.{variables_of_import}
use Rattle.ms_logic.specs.Truth.{Import}
use Rattle.ms_logic.specs.Verdict.{Problem}
use Rattle.ms_logic_core.specs.Operands.{variable, variables_of_basic, variables_at}
use Rattle.ms_logic.specs.Lists.{without}

-- one more variable in a list by rising numbers, where it stands once
abbrev pub with_variable : Variable → List Variable → List Variable
with_variable v [] = v ∷ []
with_variable v (w ∷ ws) =
    if nat_lt v.name w.name then v ∷ (w ∷ ws) else (if v.name == w.name then w ∷ ws else w ∷ with_variable v ws)

-- the variables of both lists, by rising numbers, each once
abbrev pub joined : List Variable → List Variable → List Variable
joined [] ws = ws
joined (v ∷ vs) ws = with_variable v (joined vs ws)

-- the free variables of a core formula, by rising numbers: globals come first, then bound variables, outer ones before inner ones
abbrev mutual
  pub free_variables : List Import → CoreForm → List Variable
  free_variables imports truth = []
  free_variables imports falsity = []
  free_variables imports (basic b) = joined (variables_of_basic b) []
  free_variables imports (negation f) = free_variables imports f
  free_variables imports (conjunction fs) = free_variables_among imports fs
  free_variables imports (disjunction fs) = free_variables_among imports fs
  free_variables imports (implication f g) = joined (free_variables imports f) (free_variables imports g)
  free_variables imports (equivalence f g) = joined (free_variables imports f) (free_variables imports g)
  free_variables imports (restrict f) = free_variables imports f
  free_variables imports (imported i xs) = joined (variables_at xs (variables_of_import (slice_get imports i))) []
  free_variables imports (quantified q o x d f) = without x (joined (free_variables_in imports d) (free_variables imports f))

  pub free_variables_among : List Import → CoreForms → List Variable
  free_variables_among imports no_forms = []
  free_variables_among imports (more_forms f fs) = joined (free_variables imports f) (free_variables_among imports fs)

  pub free_variables_in : List Import → CoreRestriction → List Variable
  free_variables_in imports unrestricted = []
  free_variables_in imports (restricted d) = free_variables imports d

pub data Step : Type 0 where
  -- a formula that is `true` or `false`, whatever the values
  constant : (f : CoreForm) → Step
  -- `~` or `restrict` of an operand
  of_one : (f operand : CoreForm) → Step
  relation : (b : Basic) → Step
  -- a connective of two operands
  connective : (left right : CoreForm) → Step
  -- a quantifier of x
  binding : (x : Variable) (d : CoreRestriction) (f : CoreForm) → Step
  -- an import where it stands in a formula
  import_at : (i : ℕ) (xs : List ℕ) → Step
  -- an import of the source, called or not
  import_of_source : (i : ℕ) → Step
  root : (whole : Root) → Step

-- the connective of some operands; of one operand it is that operand
abbrev pub connected : (CoreForms → CoreForm) → List CoreForm → CoreForm
connected connect [] = connect no_forms
connected connect (only ∷ []) = only
connected connect (first ∷ second ∷ more) = connect (core_forms (first ∷ second ∷ more))

-- the steps of a connective with a list of operands: one for each operand after the first, which is connected with the
-- connective of those before it. A connective of no operands is a constant.
abbrev pub steps_of_list : (CoreForms → CoreForm) → List CoreForm → CoreForms → List Step
steps_of_list connect [] no_forms = constant (connect no_forms) ∷ []
steps_of_list connect [] (more_forms f fs) = steps_of_list connect (f ∷ []) fs
steps_of_list connect (first ∷ before) no_forms = []
steps_of_list connect (first ∷ before) (more_forms f fs) =
    connective (connected connect (first ∷ before)) f ∷ steps_of_list connect ((first ∷ before) ++ f ∷ []) fs

-- the steps of a core formula: one or more for each subformula, restrictions included
abbrev mutual
  pub steps_of : CoreForm → List Step
  steps_of truth = constant truth ∷ []
  steps_of falsity = constant falsity ∷ []
  steps_of (basic b) = relation b ∷ []
  steps_of (negation f) = of_one (negation f) f ∷ steps_of f
  steps_of (conjunction fs) = steps_of_list conjunction [] fs ++ steps_among fs
  steps_of (disjunction fs) = steps_of_list disjunction [] fs ++ steps_among fs
  steps_of (implication f g) = connective f g ∷ steps_of f ++ steps_of g
  steps_of (equivalence f g) = connective f g ∷ steps_of f ++ steps_of g
  steps_of (restrict f) = of_one (restrict f) f ∷ steps_of f
  steps_of (imported i xs) = import_at i xs ∷ []
  steps_of (quantified q o x d f) = binding (variable x o) d f ∷ steps_in d ++ steps_of f

  pub steps_among : CoreForms → List Step
  steps_among no_forms = []
  steps_among (more_forms f fs) = steps_of f ++ steps_among fs

  pub steps_in : CoreRestriction → List Step
  steps_in unrestricted = []
  steps_in (restricted d) = steps_of d

-- a step of a source: of one of its roots, or one of its imports
abbrev pub IsStepOf : Problem → Step → Type 0
IsStepOf problem step =
    ((i : ℕ) × (whole : Root) × IsRoot problem i whole × Contains (root whole ∷ steps_of whole.formula) step)
    ⊎ ((i : ℕ) × (i < length problem.given.imports) × (step ≡ import_of_source i))
