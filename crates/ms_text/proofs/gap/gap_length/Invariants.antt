use Rattle.std.proofs.Common.{◌-◌, ◌≤◌, length, take, drop}
use Rattle.ms_text.specs.Gap.{IsGap}
use Rattle.ms_text.proofs.gap.gap_length.Given as goal

abbrev pub invariant-loop-piece : goal.invariant-loop-piece
invariant-loop-piece l = record { within : l.length ≤ length l.rest; gap : IsGap (take l.length l.rest) (drop l.length l.rest) }

abbrev pub decreases-loop-piece : goal.decreases-loop-piece
decreases-loop-piece l = length l.rest - l.length
