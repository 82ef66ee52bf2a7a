-- Why a source that imports nothing is not solved.
use Rattle.std.specs.Prelude.{◌≡◌, ℕ, []}
use Rattle.ms_build_source.specs.Limits.{IsUnsolved}
use Rattle.ms_edge.specs.declared.refusal.Refusal.{Refusal}
use Rattle.ms_edge.specs.declared.refusal.Refusal.TheVariants.{Nodes}
use Rattle.ms_logic.specs.declared.checked.Checked.{Checked}
use Rattle.ms_source_steps.specs.Enough.{IsEnoughFor}
use Rattle.ms_source_steps.specs.Laws.{IsBelowNumbered, IsBelowSource}

-- a limit on nodes and states is enough for the source
abbrev pub IsEnoughAlone : Checked → ℕ → Type 0
IsEnoughAlone source limit = IsEnoughFor source [] [] limit

-- it is past the limits, or a step of it lacks nodes; and then the limit on nodes and states is below each budget of the step that the
-- refusal names by its number, which is a step of the source, and so it is not enough for the source
pub record IsUnsolvedAlone (source : Checked) (limit : ℕ) (refusal : Refusal) : Type 0 where
  pub why : IsUnsolved source [] [] limit refusal
  pub numbered : (step : ℕ) → refusal ≡ Nodes step limit → IsBelowNumbered source [] limit step
  pub below : (step : ℕ) → refusal ≡ Nodes step limit → IsBelowSource source [] limit
  pub short : (step : ℕ) → refusal ≡ Nodes step limit → ¬ IsEnoughAlone source limit
