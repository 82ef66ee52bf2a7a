-- Counts of what went wrong outside, by which an answer shows its cause. A count is a u64 that never falls and
-- stays at its last value once it is there.
use Rattle.std.specs.Prelude.{◌≡◌, ℕ, ◌+◌, ◌-◌, ◌^◌, ◌<◌, ◌⊎◌, min}

-- the count rose: it is greater than before, or stands at its last value, where nothing greater can be shown
abbrev pub Rose : ℕ → ℕ → Type 0
Rose before after = (before < after) ⊎ (after ≡ 2 ^ 64 - 1)

-- one more, up to the last value
abbrev pub counted : ℕ → ℕ
counted count = min (count + 1) (2 ^ 64 - 1)
