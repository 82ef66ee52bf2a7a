use Rattle.std.proofs.Common.{◌≡◌, drop, fold}
use Rattle.std.specs.Option.{option_copied}
use Rattle.ms_edge.specs.FilesInMemory.{held_after}
use Rattle.monastr_c.specs.Buffers.{files_in}
use Rattle.monastr_c.proofs.buffers.last_of.Given as goal

-- what is held so far, and the files behind it, hold what all files hold
abbrev pub invariant-loop-file : goal.invariant-loop-file
invariant-loop-file l =
    fold (held_after l.name) (option_copied l.held) (files_in l.rest (drop l.file-index l.lengths))
    ≡ fold (held_after l.name) (option_copied l.initial.held) (files_in l.bytes l.lengths)
