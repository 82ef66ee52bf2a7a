-- Files for worked examples.
use Rattle.std.specs.Prelude.{ℕ, Some, None}
use Rattle.ms_edge.specs.Files.{FilesTold}

-- files that hold nothing and tell so, after so many calls that failed
abbrev pub empty_after : ℕ → FilesTold
empty_after faults = record { held = Some (λ name. None); faults = faults; absences = 0; overlongs = 0 }

-- files that tell nothing of what they hold
abbrev pub silent : FilesTold
silent = record { held = None; faults = 0; absences = 0; overlongs = 0 }
