use Rattle.std.proofs.Common.{List, Bool, ℕ, ap, ◌∙◌}
use Rattle.ms_arena.specs.Diagram.{leaf_of}
use Rattle.ms_dfa.specs.Files.{content_of_file}
use Rattle.ms_logic_words.specs.Content.{state_after}
use Rattle.ms_cert.specs.inner.Slots.{slot_bits, slots_of}
use Rattle.ms_cert.proofs.ContentLemmas.{first-by_slots}
use Rattle.ms_cert.proofs.running.last_state.Goals as goal

pub returns : goal.returns
returns c =
    let plain = c.args.plain.now in
    c.state_after.ensures.after
    ∙ ap (λ (letters : List (List Bool)). state_after (content_of_file plain) c.led_to-first.result letters) c.slice-2.ensures
    ∙ ap (λ (first : ℕ). state_after (content_of_file plain) first c.args.word.now.letters)
    (c.led_to-first.ensures.led
    ∙ ap (λ (slots : List ℕ). leaf_of plain.nodes plain.start (slot_bits slots c.slice.result.now)) c.requires.slots
    ∙ ap (λ (truth : List Bool). leaf_of plain.nodes plain.start (slot_bits (slots_of plain) truth)) c.slice.ensures
    ∙ first-by_slots plain c.requires.content c.args.word.now.truth)
