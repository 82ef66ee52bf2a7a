-- Each step of a root has a measure of each of its kinds.
use Rattle.std.proofs.Common.{ℕ, ⊎_elim, List, [], ◌∷◌, Contains, sym, subst}
use Rattle.ms_build_steps.specs.Kinds.{IsMeasureOfKind, Kind, itself, kinds_of, widening}
use Rattle.ms_diagram.proofs.ListLemmas.{Contains-cases, Contains-none}
use Rattle.ms_logic.specs.Lists.{AreRising}
use Rattle.ms_logic.specs.Truth.{Answer, Import}
use Rattle.ms_logic.specs.declared.mode.Mode.{Mode}
use Rattle.ms_logic_core.specs.Roots.{Root}
use Rattle.ms_logic_core.specs.Stands.{Stands}
use Rattle.ms_logic_measures.specs.Budgets.{AreContentsOfImports, variables_inside}
use Rattle.ms_logic_measures.specs.Steps.{Step, constant, of_one, relation, connective, binding, import_at, import_of_source, root, steps_of}
use Rattle.ms_logic_words.specs.Content.{Content}
use Rattle.ms_source_steps.specs.Measured.{KnownStepsAreMeasured}
use Rattle.ms_logic_readers.proofs.Others.{rising_distinct}
use Rattle.ms_source_steps.proofs.Measured.{binding_measured, connective_measured, constant_measured, import_measured, of_one_measured, relation_measured, widening_measured}
use Rattle.ms_source_steps.proofs.Parts.{IsNoRoot, no_roots}
use Rattle.ms_source_steps.proofs.ScopedParts.{distinct_apart, inside_distinct, inside_scoped, own_scoped, restriction_scoped}
use Rattle.ms_source_steps.proofs.Known.{IsKnownStep, steps_known}

-- a step that is measured by itself alone, or by a widening alone, has no other kind
no_widening : Contains (itself ∷ []) widening → ⊥
no_widening has = ⊎_elim (λ same. let never : ⊥ = cc in never) (λ later. Contains-none widening later) (Contains-cases itself [] widening has)

not_itself : Contains (widening ∷ []) itself → ⊥
not_itself has = ⊎_elim (λ same. let never : ⊥ = cc in never) (λ later. Contains-none itself later) (Contains-cases widening [] itself has)

module _ (imports : List Import) (mode : Mode) (files : List (Content Answer)) (tied : AreContentsOfImports mode imports files) (others : List (Content Answer)) where
  abbrev HasMeasure : Step → Kind → Type 0
  HasMeasure step kind = ¬ ¬ ((m r : ℕ) × IsMeasureOfKind imports mode others step kind m r)

  step_measured : (step : Step) → IsKnownStep imports step → IsNoRoot step → (kind : Kind) → Contains (kinds_of step) kind → HasMeasure step kind
  step_measured (constant f) known part itself has = constant_measured imports mode files tied others f (own_scoped imports f known.0 known.1 known.2)
  step_measured (constant f) known part widening has = absurd (no_widening has)
  step_measured (of_one f g) known part itself has =
      of_one_measured imports mode files tied others f g (own_scoped imports f known.0.0 known.0.1 known.0.2) (own_scoped imports g known.1.0 known.1.1 known.1.2)
  step_measured (of_one f g) known part widening has = absurd (no_widening has)
  step_measured (relation b) known part itself has = relation_measured imports mode files tied others b
  step_measured (relation b) known part widening has = absurd (no_widening has)
  step_measured (connective f g) known part itself has =
      connective_measured imports mode files tied others f g (own_scoped imports f known.0 known.1 known.2) (own_scoped imports g known.0 known.1 known.3)
  step_measured (connective f g) known part widening has = absurd (no_widening has)
  step_measured (binding x d f) known part itself has =
      binding_measured imports mode files tied x d f (inside_scoped imports mode x d f known.0 known.1 known.2 known.3)
      (restriction_scoped imports d (x ∷ known.0) known.1 known.2)
  step_measured (binding x d f) known part widening has =
      widening_measured imports mode files tied f (variables_inside imports mode x d f) (own_scoped imports f (x ∷ known.0) known.1 known.3)
      (inside_distinct imports mode x d f known.0)
  step_measured (import_at i xs) known part itself has = import_measured imports mode files tied others i xs
  step_measured (import_at i xs) known part widening has = absurd (no_widening has)
  step_measured (import_of_source i) known part kind has = absurd known
  step_measured (root whole) known part kind has = absurd part

  root_measured : (whole : Root) → AreRising whole.variables → Stands imports whole.variables whole.formula → (kind : Kind) → Contains (kinds_of (root whole)) kind
      → HasMeasure (root whole) kind
  root_measured whole rising stands itself has = absurd (not_itself has)
  root_measured whole rising stands widening has =
      widening_measured imports mode files tied whole.formula whole.variables
      (own_scoped imports whole.formula whole.variables (distinct_apart whole.variables (rising_distinct whole.variables rising)) stands) (rising_distinct whole.variables rising)

pub known_steps_are_measured : KnownStepsAreMeasured
known_steps_are_measured imports mode files others whole step kind tied rising stands there has = ⊎_elim
    (λ same.
    subst (λ (s : Step). (k : Kind) → Contains (kinds_of s) k → HasMeasure imports mode files tied others s k) (sym same)
    (root_measured imports mode files tied others whole rising stands) kind has)
    (λ later.
    step_measured imports mode files tied others step
    (steps_known imports whole.formula whole.variables (distinct_apart whole.variables (rising_distinct whole.variables rising)) stands step later) (no_roots whole.formula step later) kind has)
    (Contains-cases (root whole) (steps_of whole.formula) step there)
