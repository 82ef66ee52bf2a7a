use Rattle.std.proofs.Common.{◌≡◌, ◌<◌, ℕ, length, slice_get, Some}
use Rattle.ms_minim.specs.inner.Predecessors.{IsListed, AreBelow}
use Rattle.ms_minim.proofs.predecessors.note.Given as goal

-- the lists of the states so far have the item
abbrev pub invariant-loop-leaf : goal.invariant-loop-leaf
invariant-loop-leaf l =
    (length l.lists.items ≡ length l.initial.lists.items)
    × ((state other : ℕ) → IsListed l.initial.lists.items state other → IsListed l.lists.items state other)
    × ((place leaf : ℕ) → place < l.leaf-index → slice_get l.leaves place ≡ Some leaf → leaf < length l.initial.lists.items → IsListed l.lists.items leaf l.state)
    × ((bound : ℕ) → l.state < bound → AreBelow bound l.initial.lists.items → AreBelow bound l.lists.items)
