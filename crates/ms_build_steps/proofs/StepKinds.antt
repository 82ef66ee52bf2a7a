-- The measures of a step are those of its kinds.
use Rattle.std.proofs.Common.{ℕ, ◌<◌, inl, inr, List, [], ◌∷◌, Contains}
use Rattle.ms_diagram.proofs.ListLemmas.{Contains-first, Contains-rest}
use Rattle.ms_logic.specs.Truth.{Answer, Import}
use Rattle.ms_logic.specs.declared.mode.Mode.{Mode}
use Rattle.ms_logic_measures.specs.Budgets.{IsMeasureOf, budget}
use Rattle.ms_logic_measures.specs.Steps.{Step, constant, of_one, relation, connective, binding, import_at, import_of_source, root}
use Rattle.ms_logic_words.specs.Content.{Content}
use Rattle.ms_build_steps.specs.Kinds.{IsBelowKind, IsMeasureOfKind, Kind, MeasuresAreOfKinds, itself, kinds_of, widening}

abbrev only_itself : List Kind
only_itself = itself ∷ []

pub itself_there : Contains only_itself itself
itself_there = Contains-first itself []

module _ (imports : List Import) (mode : Mode) (files : List (Content Answer)) (m r : ℕ) where
  abbrev HasOne : Step → Type 0
  HasOne step = (kind : Kind) × Contains (kinds_of step) kind × IsMeasureOfKind imports mode files step kind m r

  of_a_kind : (step : Step) → IsMeasureOf imports mode files step m r → HasOne step
  of_a_kind (constant f) is = (itself, itself_there, is)
  of_a_kind (of_one f g) is = (itself, itself_there, is)
  of_a_kind (relation b) is = (itself, itself_there, is)
  of_a_kind (connective f g) is = (itself, itself_there, is)
  of_a_kind (binding x d f) (inl is) = (widening, Contains-first widening (itself ∷ []), is)
  of_a_kind (binding x d f) (inr is) = (itself, Contains-rest widening (itself ∷ []) itself itself_there, is)
  of_a_kind (import_at i xs) is = (itself, itself_there, is)
  of_a_kind (import_of_source i) is = (itself, itself_there, is)
  of_a_kind (root whole) is = (widening, Contains-first widening [], is)

  of_kind : (step : Step) (kind : Kind) → IsMeasureOfKind imports mode files step kind m r → IsMeasureOf imports mode files step m r
  of_kind (constant f) itself is = is
  of_kind (constant f) widening is = absurd is
  of_kind (of_one f g) itself is = is
  of_kind (of_one f g) widening is = absurd is
  of_kind (relation b) itself is = is
  of_kind (relation b) widening is = absurd is
  of_kind (connective f g) itself is = is
  of_kind (connective f g) widening is = absurd is
  of_kind (binding x d f) itself is = inr is
  of_kind (binding x d f) widening is = inl is
  of_kind (import_at i xs) itself is = is
  of_kind (import_at i xs) widening is = absurd is
  of_kind (import_of_source i) itself is = is
  of_kind (import_of_source i) widening is = absurd is
  of_kind (root whole) itself is = absurd is
  of_kind (root whole) widening is = is

pub measures_are_of_kinds : MeasuresAreOfKinds
measures_are_of_kinds imports mode files step m r = (
  λ is. of_a_kind imports mode files m r step is,
  λ found. of_kind imports mode files m r step found.0 found.2,
)

-- below each budget of a step that is measured by itself alone
pub below_itself : (imports : List Import) (mode : Mode) (limit : ℕ) (step : Step) → Contains (kinds_of step) itself
    → ((files : List (Content Answer)) (m r : ℕ) → IsMeasureOfKind imports mode files step itself m r → limit < budget m r) → IsBelowKind imports mode step limit
below_itself imports mode limit step has below = record { kind = itself; has = has; below = below }

-- each step has a kind
pub some_kind : (step : Step) → (kind : Kind) × Contains (kinds_of step) kind
some_kind (constant f) = (itself, itself_there)
some_kind (of_one f g) = (itself, itself_there)
some_kind (relation b) = (itself, itself_there)
some_kind (connective f g) = (itself, itself_there)
some_kind (binding x d f) = (widening, Contains-first widening (itself ∷ []))
some_kind (import_at i xs) = (itself, itself_there)
some_kind (import_of_source i) = (itself, itself_there)
some_kind (root whole) = (widening, Contains-first widening [])
