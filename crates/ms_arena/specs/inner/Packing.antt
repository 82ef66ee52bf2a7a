-- Cells in sixteen bytes: of each end's code the lower four bytes, and whether it has a bit above them, where any has.
use Rattle.std.specs.Prelude.{◌≡◌, ℕ, suc, ◌+◌, ◌≤◌, Bool, false, if◌then◌else◌, List, [], ◌∷◌, ◌++◌, length}
use Rattle.ms_arena.specs.declared.cells.Cell.{Cell}
use Rattle.ms_arena.specs.declared.cells.Packed.{Packed}
use Rattle.ms_arena.specs.declared.cells.Upper.{Upper}
use Rattle.ms_arena.specs.inner.Code.{ref_of}

-- what contracts see of a list of cells: the cells, and how many more there is room for
pub record Row : Type 0 where
  pub cells : List Cell
  pub spare : ℕ

-- the code with these lower four bytes, and with a bit above them or without
abbrev pub whole_code : ℕ → Bool → ℕ
whole_code lower upper = if upper then lower + 4294967296 else lower

-- the cell that is packed so
abbrev pub unpacked : Packed → Upper → Cell
unpacked packed upper = record {
  node = record { var = packed.var; low = ref_of (whole_code packed.low upper.low); high = ref_of (whole_code packed.high upper.high) };
  next = packed.next;
}

-- no code has a bit above its lower four bytes
abbrev pub no_upper : Upper
no_upper = record { low = false; high = false }

-- the cells that are packed so, where those behind the last upper bits have none
abbrev pub cells_of : List Packed → List Upper → List Cell
cells_of [] uppers = []
cells_of (packed ∷ rest) [] = unpacked packed no_upper ∷ cells_of rest []
cells_of (packed ∷ rest) (upper ∷ uppers) = unpacked packed upper ∷ cells_of rest uppers

-- the upper bits of a cell at the place, behind all others, are noted, and the others are what they were
pub record HasNoted (old new : List Upper) (place : ℕ) (upper : Upper) : Type 0 where
  pub counted : length new ≤ suc place
  pub packed : (all : List Packed) (packed : Packed) → length all ≡ place → cells_of (all ++ packed ∷ []) new ≡ cells_of all old ++ unpacked packed upper ∷ []
