use Rattle.std.proofs.Common.{◌≡◌, length}
use Rattle.ms_build.specs.Built.{entries_of}
use Rattle.ms_build.specs.inner.Uses.{AreUsesSoFar}
use Rattle.ms_build.proofs.uses.note_nodes.Given as goal

-- the uses of the nodes so far
abbrev pub invariant-loop-step : goal.invariant-loop-step
invariant-loop-step l = (length l.last.items ≡ length l.initial.last.items) × AreUsesSoFar (entries_of l.plan) l.step l.last.items
