use Rattle.std.proofs.Common.{All, IsUtf8, drop}
use Rattle.monastr_c.specs.Buffers.{names_in}
use Rattle.monastr_c.proofs.buffers.names_are_text.Given as goal

-- the names of all files are text exactly where those of the files behind here are
abbrev pub invariant-loop-file : goal.invariant-loop-file
invariant-loop-file l =
    (All IsUtf8 (names_in l.rest (drop l.file-index l.lengths)) → All IsUtf8 (names_in l.bytes l.lengths))
    × (All IsUtf8 (names_in l.bytes l.lengths) → All IsUtf8 (names_in l.rest (drop l.file-index l.lengths)))
