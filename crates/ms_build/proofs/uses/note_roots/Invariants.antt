use Rattle.std.proofs.Common.{map, take}
use Rattle.ms_dag.specs.declared.node.Child.{Child}
use Rattle.ms_build.specs.Built.{roots_of}
use Rattle.ms_build.specs.inner.Uses.{AreNotedUses, to_the_end}
use Rattle.ms_build.proofs.uses.note_roots.Given as goal

-- the uses of the roots so far
abbrev pub invariant-loop-root : goal.invariant-loop-root
invariant-loop-root l = AreNotedUses l.initial.last.items l.last.items (take l.root-index (map (λ (c : Child). c.node) (roots_of l.plan))) to_the_end
