use Rattle.std.proofs.Common.{List, ℕ, ap, ◌∙◌}
use Rattle.ms_arena.specs.Diagram.{leaf_of}
use Rattle.ms_dfafile_outside.proofs.FileLemmas.{state-at, state_of}
use Rattle.ms_cert.specs.inner.Slots.{slot_bits}
use Rattle.ms_cert.proofs.ContentLemmas.{next-by_slots}
use Rattle.ms_cert.proofs.running.step.Goals as goal

pub led_to-requires-clause-named : goal.led_to-requires-clause-named
led_to-requires-clause-named c = c.requires.content.next_named c.args.from (state_of c.get.result.now) (state-at c.args.plain.now c.args.from c.get.result.now c.get.ensures)

pub returns-clause-next : goal.returns-clause-next
returns-clause-next c =
    let plain = c.args.plain.now in
    let s = c.get.result.now in
    c.led_to.ensures.led
    ∙ ap (λ (slots : List ℕ). leaf_of plain.nodes s.next (slot_bits slots c.args.letter.now)) c.requires.slots
    ∙ next-by_slots plain c.requires.content c.args.from s c.args.letter.now c.get.ensures
