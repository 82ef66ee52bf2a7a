use Rattle.std.proofs.Common.{◌≡◌, ℕ, ◌<◌, slice_get, Some}
use Rattle.ms_arena.specs.inner.Chain.{nodes_of}
use Rattle.ms_arena.proofs.chain.find_in_row.Given as goal

abbrev pub invariant-loop-place : goal.invariant-loop-place
invariant-loop-place l = (earlier : ℕ) → earlier < l.place → slice_get (nodes_of l.cells.cells) earlier ≡ Some l.node → ⊥
