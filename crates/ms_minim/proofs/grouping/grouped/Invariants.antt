use Rattle.std.proofs.Common.{◌≡◌, ◌<◌, ℕ, length, slice_get, Some}
use Rattle.ms_minim.specs.inner.Predecessors.{AreBelow, IsListed}
use Rattle.ms_minim.proofs.grouping.grouped.Given as goal

-- the states so far are listed
abbrev pub invariant-loop-state : goal.invariant-loop-state
invariant-loop-state l =
    ((state class : ℕ) → state < l.state → slice_get l.classes.items state ≡ Some class → IsListed l.members.items class state)
    × (length l.members.items ≡ l.count) × AreBelow (length l.classes.items) l.members.items
