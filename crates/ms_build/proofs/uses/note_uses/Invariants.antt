use Rattle.std.proofs.Common.{take}
use Rattle.ms_build.specs.inner.Uses.{AreNotedUses}
use Rattle.ms_build.proofs.uses.note_uses.Given as goal

-- the uses of the nodes so far
abbrev pub invariant-loop-node : goal.invariant-loop-node
invariant-loop-node l = AreNotedUses l.initial.last.items l.last.items (take l.node-index l.nodes) l.step
