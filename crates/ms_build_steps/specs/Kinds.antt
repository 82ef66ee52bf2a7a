-- What is measured of a step. A quantifier has two measures, and a limit under which the one is short need not be below the budgets of
-- the other: so it is said which.
use Rattle.std.specs.Prelude.{ℕ, ◌<◌, ◌↔◌, List, [], ◌∷◌, Contains}
use Rattle.ms_dag_steps.specs.OwnSteps.{own_steps}
use Rattle.ms_logic.specs.Truth.{Answer, Import}
use Rattle.ms_logic.specs.declared.mode.Mode.{Mode}
use Rattle.ms_logic_core.specs.CoreForm.{CoreForm}
use Rattle.ms_logic_measures.specs.Budgets.{IsBindingMeasure, IsMeasureOf, IsWideningMeasure, budget, variables_inside}
use Rattle.ms_logic_measures.specs.Steps.{Step, binding, root}
use Rattle.ms_logic_words.specs.Content.{Content}

-- the step itself, or the widening before it
pub data Kind : Type 0 where
  itself : Kind
  widening : Kind

-- a step is measured by itself; a quantifier also by the widening of its body before it, and a root by a widening alone
abbrev pub kinds_of : Step → List Kind
kinds_of (binding x d f) = widening ∷ itself ∷ []
kinds_of (root whole) = widening ∷ []
kinds_of step = itself ∷ []

module _ (imports : List Import) (mode : Mode) where
  -- the step has the measure m and r of this kind
  abbrev pub IsMeasureOfKind : List (Content Answer) → Step → Kind → ℕ → ℕ → Type 0
  IsMeasureOfKind files (binding x d f) widening m r = IsWideningMeasure imports mode f (variables_inside imports mode x d f) m r
  IsMeasureOfKind files (binding x d f) itself m r = IsBindingMeasure imports mode x d f m r
  IsMeasureOfKind files (root whole) widening m r = IsWideningMeasure imports mode whole.formula whole.variables m r
  IsMeasureOfKind files (root whole) itself m r = ⊥
  IsMeasureOfKind files step itself m r = IsMeasureOf imports mode files step m r
  IsMeasureOfKind files step widening m r = ⊥

  -- a limit is below each budget of a step, of one of its kinds
  pub record IsBelowKind (step : Step) (limit : ℕ) : Type 0 where
    pub kind : Kind
    pub has : Contains (kinds_of step) kind
    pub below : (files : List (Content Answer)) (m r : ℕ) → IsMeasureOfKind files step kind m r → limit < budget m r

  -- a limit is below each budget of one of these steps, of one of its kinds
  abbrev pub IsBelowOneOf : List Step → ℕ → Type 0
  IsBelowOneOf steps limit = (step : Step) × Contains steps step × IsBelowKind step limit

  -- a limit is below each budget of one of the own steps of a formula, of one of its kinds
  abbrev pub IsBelowOwnStep : CoreForm → ℕ → Type 0
  IsBelowOwnStep f limit = IsBelowOneOf (own_steps f) limit

-- the measures of a step are those of its kinds
abbrev pub MeasuresAreOfKinds : Type 0
MeasuresAreOfKinds =
    (imports : List Import) (mode : Mode) (files : List (Content Answer)) (step : Step) (m r : ℕ)
    → IsMeasureOf imports mode files step m r ↔ ((kind : Kind) × Contains (kinds_of step) kind × IsMeasureOfKind imports mode files step kind m r)
