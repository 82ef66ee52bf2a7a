use Rattle.std.proofs.Common.{◌≡◌}
use Rattle.ms_arena.specs.Diagram.{leaf_of}
use Rattle.ms_arena.specs.Halves.{size_of}
use Rattle.ms_dfa.specs.Files.{content_of_file}
use Rattle.ms_logic_words.specs.Content.{NamesPart}
use Rattle.ms_cert.specs.inner.Slots.{slot_bits}
use Rattle.ms_cert.proofs.running.led_to.Given as goal

-- from the reference the bits lead where they lead from the first one
abbrev pub invariant-leading : goal.invariant-leading
invariant-leading l =
    NamesPart (content_of_file l.plain) l.reference × (leaf_of l.plain.nodes l.reference (slot_bits l.slots l.values) ≡ leaf_of l.plain.nodes l.fn.from (slot_bits l.slots l.values))

-- each end is before its node
abbrev pub decreases-leading : goal.decreases-leading
decreases-leading l = size_of l.reference
