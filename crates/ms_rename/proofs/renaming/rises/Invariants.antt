use Rattle.std.proofs.Common.{ℕ, ◌+◌, ◌<◌, slice_index}
use Rattle.ms_rename.proofs.renaming.rises.Given as goal

-- each of the numbers so far is below the next
abbrev pub invariant-loop-i : goal.invariant-loop-i
invariant-loop-i l = (j : ℕ) → j + 1 < l.i → slice_index l.map j < slice_index l.map (j + 1)
