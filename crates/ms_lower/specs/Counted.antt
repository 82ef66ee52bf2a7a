-- How size and depth are counted: up to a limit.
use Rattle.std.specs.Prelude.{ℕ, ◌+◌, ◌-◌, ◌^◌, nat_le, max, min, if◌then◌else◌, List, Option, Some, None}
use Rattle.ms_logic_core.specs.Size.{Extent, total_size, greatest_depth}
use Rattle.ms_lower.specs.declared.counted.Counted.{Counted}

-- the least size that is too large
abbrev pub too_large : ℕ
too_large = 1000001

-- the count of some parts; None where one of them is deeper than a limit
abbrev pub counted : ℕ → List Extent → Option Counted
counted limit parts =
    if nat_le (greatest_depth parts) limit
    then Some (record { size = min (total_size parts) too_large; depth = greatest_depth parts })
    else None

-- the count of a node above its parts, by theirs
abbrev pub above_count : Option Counted → Option Counted
above_count None = None
above_count (Some c) = Some (record { size = min (1 + c.size) too_large; depth = min (c.depth + 1) (2 ^ 32 - 1) })

-- the count of the parts of both
abbrev pub both_counts : Option Counted → Option Counted → Option Counted
both_counts None other = None
both_counts (Some c) None = None
both_counts (Some c) (Some d) = Some (record { size = min (c.size + d.size) too_large; depth = max c.depth d.depth })

-- the greatest depth of a part of a source: with one more, the source has the greatest depth that is allowed
abbrev pub deepest : ℕ
deepest = 299

-- the count, where it is within a limit
abbrev pub narrowed : ℕ → Option Counted → Option Counted
narrowed limit None = None
narrowed limit (Some c) = if nat_le c.depth limit then Some c else None

-- the count of a source, by that of its parts and the number of its globals
abbrev pub whole_count : Counted → ℕ → Counted
whole_count parts globals = record { size = min (parts.size + (1 + globals)) too_large; depth = parts.depth + 1 }
