use Rattle.std.proofs.Common.{◌≡◌, Some, get_or, sym, ap, subst, ◌∙◌}
use Rattle.std.proofs.lemmas.Option.{get_or_from_slice_get, same_Some}
use Rattle.std.proofs.lemmas.Result.{IfOk-weaker}
use Rattle.ms_arena.specs.declared.node.Ref.{Ref}
use Rattle.ms_arena.specs.declared.node.Ref.TheVariants.{Inner}
use Rattle.ms_dfa.specs.Files.{content_of_file}
use Rattle.ms_dfafile_outside.specs.declared.label.Label.{Label}
use Rattle.ms_dfafile_outside.specs.inner.Labels.{IsKnown, IsSettled, index_of}
use Rattle.ms_dfafile_outside.proofs.LabelsLemmas.{Finds-done}
use Rattle.ms_dfafile_outside.proofs.settling.settle.Goals as goal

pub returns-in-Inner : goal.returns-in-Inner
returns-in-Inner c =
    let content = content_of_file c.args.plain.now in
    let labels = c.args.labels.now in
    let new = c.settle_node.new.labels in
    let label = c.in-Some.label in
    let read = c.index.result.now in
    let gives = λ (settled : IsSettled content new.known.items (Inner c.in-Inner.place) label) (other : Label) (known : IsKnown content labels.known.items c.args.reference other).
    let same : label ≡ other = same_Some label other (sym c.in-Some.is ∙ c.index.ensures ∙ ap (λ i. get_or labels.known.items i read) c.index_of.ensures
    ∙ get_or_from_slice_get labels.known.items (index_of content c.args.reference) (Some other) read known) in
    subst (IsSettled content new.known.items c.args.reference) same (subst (λ (r : Ref). IsSettled content new.known.items r label) (sym c.in-Inner.is) settled) in
    IfOk-weaker c.settle_node.result _ _
    (λ agrees found. Finds-done content labels.known.items new.known.items labels.work new.work (IsSettled content new.known.items (Inner c.in-Inner.place) label)
    ((other : Label) → IsKnown content labels.known.items c.args.reference other → IsSettled content new.known.items c.args.reference other) agrees gives found)
    c.settle_node.ensures
