use Rattle.std.proofs.Common.{◌≡◌, take}
use Rattle.std.specs.Option.{option_copied}
use Rattle.ms_edge.specs.FilesInMemory.{held_under}
use Rattle.ms_edge.specs.Span.{entries_in}
use Rattle.ms_edge.proofs.log.last_of.Given as goal

-- what is held after the spans so far
abbrev pub invariant-loop-span : goal.invariant-loop-span
invariant-loop-span l = option_copied l.held ≡ held_under (entries_in l.buffer (take l.span-index l.spans)) l.name
