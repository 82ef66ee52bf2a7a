use Rattle.std.proofs.Common.{◌≡◌, ◌+◌, ℕ, length}
use Rattle.ms_minim.specs.inner.Predecessors.{AreBelow, IsListed}
use Rattle.ms_minim.proofs.grouping.make_room.Given as goal

abbrev pub invariant-loop : goal.invariant-loop
invariant-loop l =
    (l.groups.classes.items ≡ l.initial.groups.classes.items) × (length l.groups.members.items ≡ length l.initial.groups.members.items + l.counter)
    × ((class state : ℕ) → IsListed l.initial.groups.members.items class state → IsListed l.groups.members.items class state)
    × ((bound : ℕ) → AreBelow bound l.initial.groups.members.items → AreBelow bound l.groups.members.items)
