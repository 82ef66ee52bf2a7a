-- The leaf that a bit chooses of two.
use Rattle.std.specs.Prelude.{ℕ, zero, suc, List, slice_get, Option, Some, None}

-- of two ends the first where the number is 0, else the second
abbrev pub chosen_end : ℕ → Option (ℕ × ℕ) → ℕ
chosen_end bit None = 0
chosen_end zero (Some ends) = ends.0
chosen_end (suc bit) (Some ends) = ends.1

-- the end that a pair of a bit and of the number of two ends chooses
abbrev pub choice_of : List (ℕ × ℕ) → ℕ × ℕ → ℕ
choice_of ends choice = chosen_end choice.0 (slice_get ends choice.1)
