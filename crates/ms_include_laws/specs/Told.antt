-- What two calls saw of the files, and what is refused for no fault of a source.
use Rattle.std.specs.Prelude.{◌≡◌, ℕ, ◌⊎◌, List, Some}
use Rattle.ms_edge.specs.Counts.{Rose}
use Rattle.ms_edge.specs.Files.{Holding, Seen}
use Rattle.ms_edge.specs.declared.refusal.Refusal.{Refusal}
use Rattle.ms_edge.specs.declared.refusal.Refusal.TheVariants.{Memory, ReadFault}

-- what is held was told before two calls, and was the same
pub record TellSame (one other : Seen) : Type 0 where
  pub holding : Holding
  pub one_told : one.before.held ≡ Some holding
  pub other_told : other.before.held ≡ Some holding

-- the refusal tells of no fault of a source: memory was wanting, or a read failed
abbrev pub IsFromOutside : Seen → Refusal → Type 0
IsFromOutside seen refusal =
    (refusal ≡ Memory) ⊎ ((name : List ℕ) × (refusal ≡ ReadFault name) × Rose seen.before.faults seen.after.faults)
