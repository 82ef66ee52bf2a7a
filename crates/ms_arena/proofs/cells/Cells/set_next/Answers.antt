use Rattle.std.proofs.Common.{◌≡◌, ◌<◌, length, slice_get, set, Some, sym, ap, subst, ◌∙◌, rules}
use Rattle.std.proofs.lemmas.Option.{slice_get-get_or}
use Rattle.ms_arena.specs.inner.Packing.{Row}
use Rattle.ms_arena.proofs.PackingLemmas.{length-cells_of, cells_of-link}
use Rattle.ms_arena.proofs.cells.Cells.set_next.Goals as goal

pub index_mut-requires : goal.index_mut-requires
index_mut-requires c =
    let held : length c.self.inside.packed.items ≡ _ = search rules in
    subst (λ number. c.args.place < number) held
    (subst (λ number. c.args.place < number) (ap (λ (row : Row). length row.cells) (sym c.self.view_is) ∙ length-cells_of c.self.inside.packed.items c.self.inside.uppers.items) c.requires)

pub returns-clause-cells : goal.returns-clause-cells
returns-clause-cells c cell held =
    let all = c.self.inside.packed.items in
    let uppers = c.self.inside.uppers.items in
    let inside = subst (λ number. c.args.place < number) (ap (λ (row : Row). length row.cells) (sym c.self.view_is) ∙ length-cells_of all uppers) c.requires in
    cells_of-link all uppers c.args.place c.args.next c.index_mut.result.now cell
    (slice_get-get_or all c.args.place c.index_mut.result.now inside ∙ ap Some (sym c.index_mut.ensures.value))
    (subst (λ (row : Row). slice_get row.cells c.args.place ≡ Some cell) (sym c.self.view_is) held)
    ∙ ap (λ (row : Row). set row.cells c.args.place (record { node = cell.node; next = c.args.next })) c.self.view_is
