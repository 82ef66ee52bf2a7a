use Rattle.std.proofs.Common.{length, sym, ap, subst, ◌∙◌}
use Rattle.std.proofs.lemmas.List.{with_items_is}
use Rattle.std.specs.Vec.{with_items}
use Rattle.ms_diagram.specs.declared.computed_table.Slot.{Slot}
use Rattle.ms_diagram.specs.inner.Computed.{entries_of, held}
use Rattle.ms_diagram.specs.inner.Notes.{KeepsOnly, NotesOnly}
use Rattle.ms_diagram.proofs.ComputedLemmas.{noted-only}
use Rattle.ms_diagram.proofs.PairLemmas.{numbers_eq}
use Rattle.ms_diagram.proofs.computed_table.ComputedTable.tell.Goals as goal

pub returns-clause-only : goal.returns-clause-only
returns-clause-only c =
    let slot : Slot = record { left = c.args.codes.0; right = c.args.codes.1; made = c.args.made } in
    let moved = c.make_room.new.buckets in
    let new = c.put.new.buckets in
    let put = subst (λ buckets. KeepsOnly (held slot (entries_of buckets)) (entries_of new)) c.deref_mut.ensures.value c.put.ensures.only in
    let only = noted-only (entries_of c.self.inside.buckets.items) (entries_of moved.items) (entries_of new) slot c.in_ok-make_room.ensures.moved.only put in
    let written = with_items_is moved new (c.put.ensures.room ∙ ap length c.deref_mut.ensures.value ∙ sym moved.ok.0) in
    subst (λ old. NotesOnly numbers_eq old (entries_of (with_items moved new).items) c.args.codes c.args.made) c.self.view_is
    (subst (λ buckets. NotesOnly numbers_eq (entries_of c.self.inside.buckets.items) (entries_of buckets) c.args.codes c.args.made) (sym written) only)
