use Rattle.std.proofs.Common.{◌≡◌, length}
use Rattle.ms_minim.specs.inner.Grouping.{IsMoved}
use Rattle.ms_minim.specs.inner.Predecessors.{AreBelow}
use Rattle.ms_minim.proofs.grouping.settle.Given as goal

abbrev pub invariant-loop-place : goal.invariant-loop-place
invariant-loop-place l =
    IsMoved l.initial.groups.classes.items l.groups.classes.items l.groups.members.items l.due l.labels l.place
    × (length l.groups.members.items ≡ length l.initial.groups.members.items)
    × (AreBelow (length l.initial.groups.classes.items) l.initial.groups.members.items → AreBelow (length l.initial.groups.classes.items) l.groups.members.items)
