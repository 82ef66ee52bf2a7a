use Rattle.std.proofs.Common.{◌≡◌, ◌<◌, length, slice_get, get_or, Some, sym, ap, subst, ◌∙◌, rules}
use Rattle.std.proofs.lemmas.Option.{slice_get-get_or}
use Rattle.std.specs.Option.{option_map}
use Rattle.ms_arena.specs.declared.cells.Packed.{Packed}
use Rattle.ms_arena.specs.declared.cells.Upper.{Upper}
use Rattle.ms_arena.specs.inner.Packing.{Row, unpacked, no_upper}
use Rattle.ms_arena.proofs.PackingLemmas.{length-cells_of, cell_at}
use Rattle.ms_arena.proofs.cells.Cells.get.Goals as goal

pub index-packed-requires : goal.index-packed-requires
index-packed-requires c =
    let held : length c.self.inside.packed.items ≡ _ = search rules in
    subst (λ number. c.args.place < number) held
    (subst (λ number. c.args.place < number) (ap (λ (row : Row). length row.cells) (sym c.self.view_is) ∙ length-cells_of c.self.inside.packed.items c.self.inside.uppers.items) c.requires)

pub returns : goal.returns
returns c =
    let all = c.self.inside.packed.items in
    let uppers = c.self.inside.uppers.items in
    let inside = subst (λ number. c.args.place < number) (ap (λ (row : Row). length row.cells) (sym c.self.view_is) ∙ length-cells_of all uppers) c.requires in
    ap (λ (row : Row). slice_get row.cells c.args.place) (sym c.self.view_is)
    ∙ cell_at all uppers c.args.place
    ∙ ap (option_map (λ packed. unpacked packed (get_or uppers c.args.place no_upper))) (slice_get-get_or all c.args.place c.index-packed.result.now inside)
    ∙ ap (λ (packed : Packed). Some (unpacked packed (get_or uppers c.args.place no_upper))) (sym c.index-packed.ensures)
    ∙ ap (λ (upper : Upper). Some (unpacked c.index-packed.result.now upper)) (sym (c.upper_at.ensures ∙ ap (λ list. get_or list c.args.place no_upper) c.deref.ensures.value))
    ∙ ap Some (sym c.unpack.ensures)
