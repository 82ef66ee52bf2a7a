use Rattle.std.proofs.Common.{◌-◌, ◌≤◌, length}
use Rattle.ms_text.proofs.Gaps.{NoCloseBefore}
use Rattle.ms_text.proofs.gap.body_length.Given as goal

abbrev pub invariant-loop-length : goal.invariant-loop-length
invariant-loop-length l = record { within : l.length ≤ length l.rest; none : NoCloseBefore l.rest l.length }

abbrev pub decreases-loop-length : goal.decreases-loop-length
decreases-loop-length l = length l.rest - l.length
