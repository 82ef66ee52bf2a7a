use Rattle.std.proofs.Common.{◌≡◌, ◌≤◌, ◌-◌, List, length}
use Rattle.std.specs.Prelude.{vec_capacity}
use Rattle.ms_arena.specs.declared.cells.Packed.{Packed}
use Rattle.ms_arena.specs.inner.Packing.{cells_of}
use Rattle.ms_arena.proofs.cells.note_upper.Given as goal

abbrev pub invariant-loop-uppers : goal.invariant-loop-uppers
invariant-loop-uppers l =
    (length l.uppers.items ≤ l.place)
    × (vec_capacity l.uppers ≡ vec_capacity l.initial.uppers)
    × ((all : List Packed) → cells_of all l.uppers.items ≡ cells_of all l.initial.uppers.items)

abbrev pub decreases-loop-uppers : goal.decreases-loop-uppers
decreases-loop-uppers l = l.place - length l.uppers.items
