use Rattle.std.proofs.Common.{◌≡◌, ◌≤◌, length, take}
use Rattle.ms_parse_steps.specs.inner.Machine.{in_part}
use Rattle.ms_parse_steps.specs.inner.Stack.{stack_of}
use Rattle.ms_parse_steps.proofs.top.in_part.Given as goal

-- what the frames that are left say is what all say
abbrev pub invariant-loop-left : goal.invariant-loop-left
invariant-loop-left l = (l.left ≤ length l.stack) × (in_part (stack_of l.stack) ≡ in_part (stack_of (take l.left l.stack)))

abbrev pub decreases-loop-left : goal.decreases-loop-left
decreases-loop-left l = l.left
