-- The cells of an arena, their heads and the room for more of them.
use Rattle.std.specs.Prelude.{ℕ, ◌+◌, ◌<◌, ◌≤◌, List, length}
use Rattle.ms_arena.specs.declared.cells.Cell.{Cell}
use Rattle.ms_arena.specs.Arena.{IsUnique}
use Rattle.ms_arena.specs.inner.Chain.{nodes_of, AreLinked}

-- the cells hold unique nodes, in chains where there are heads, with spare room behind them, of all the room that there is, and
-- heads where there is room
pub record IsTable (cells : List Cell) (heads : List ℕ) (spare room : ℕ) : Type 0 where
  pub unique : IsUnique (nodes_of cells)
  pub linked : 0 < length heads → AreLinked cells heads (length cells)
  pub reserved : spare ≤ room
  pub small : length cells + spare ≤ 4294967295
  pub headed : 0 < spare → 0 < length heads
