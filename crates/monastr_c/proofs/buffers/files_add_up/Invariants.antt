use Rattle.std.proofs.Common.{◌≡◌, ◌+◌, length, sum_by, take}
use Rattle.monastr_c.specs.Buffers.{size_of}
use Rattle.monastr_c.proofs.buffers.files_add_up.Given as goal

-- what is left, and what was taken off so far, are the bytes
abbrev pub invariant-loop-file : goal.invariant-loop-file
invariant-loop-file l = l.left + sum_by size_of (take l.file-index l.lengths) ≡ length l.bytes
