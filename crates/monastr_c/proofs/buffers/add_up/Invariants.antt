use Rattle.std.proofs.Common.{◌≡◌, ◌+◌, sum, take}
use Rattle.monastr_c.proofs.buffers.add_up.Given as goal

-- what is left, and what was taken off so far, are the count
abbrev pub invariant-loop-length : goal.invariant-loop-length
invariant-loop-length l = l.left + sum (take l.length-index l.lengths) ≡ l.count
