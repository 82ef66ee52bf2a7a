use Rattle.std.proofs.Common.{true, false, length, sym, ap, ◌∙◌, arith}
use Rattle.std.proofs.lemmas.List.{length-map}
use Rattle.ms_arena.specs.declared.node.Ref.{Ref}
use Rattle.ms_arena.specs.Diagram.{leaf_of}
use Rattle.ms_arena.proofs.Paths.{leaf_of-leaf}
use Rattle.ms_dfa.specs.Files.{content_of_file}
use Rattle.ms_dfafile_outside.proofs.FileLemmas.{length-variables}
use Rattle.ms_cert.specs.inner.Slots.{orders_of, slot_bits}
use Rattle.ms_cert.proofs.ContentLemmas.{way-more}
use Rattle.ms_cert.proofs.SlotsLemmas.{length-slots}
use Rattle.ms_cert.proofs.running.led_to.Goals as goal

pub returns-in-Leaf-clause-led : goal.returns-in-Leaf-clause-led
returns-in-Leaf-clause-led c =
    let bits = slot_bits c.args.slots.now c.args.values.now in
    sym (leaf_of-leaf c.args.plain.now.nodes bits c.in-Leaf.state)
    ∙ ap (λ (r : Ref). leaf_of c.args.plain.now.nodes r bits) (sym c.in-Leaf.is)
    ∙ c.leading.invariant.1

pub bit_of-requires : goal.bit_of-requires
bit_of-requires c =
    let plain = c.args.plain.now in
    let named = c.requires.content.variables c.in-Inner.place c.get-node.result.now c.get-node.ensures in
    omega (arith, named, length-variables plain, length-slots (orders_of plain) 0 0, length-map plain.variables (λ v. v.order), ap length c.requires.slots)

pub leading-preserved-then-bit_of : goal.leading-preserved-then-bit_of
leading-preserved-then-bit_of c =
    let bits = slot_bits c.args.slots.now c.args.values.now in
    let more = way-more (content_of_file c.args.plain.now) c.requires.content bits c.leading.reference c.in-Inner.place c.get-node.result.now true c.in-Inner.is c.get-node.ensures (sym c.bit_of.ensures ∙ c.if-bit_of.true) in
    (more.0, more.1 ∙ c.leading.invariant.1)

pub leading-preserved : goal.leading-preserved
leading-preserved c =
    let bits = slot_bits c.args.slots.now c.args.values.now in
    let more = way-more (content_of_file c.args.plain.now) c.requires.content bits c.leading.reference c.in-Inner.place c.get-node.result.now false c.in-Inner.is c.get-node.ensures (sym c.bit_of.ensures ∙ c.if-bit_of.false) in
    (more.0, more.1 ∙ c.leading.invariant.1)
