use Rattle.std.proofs.Common.{◌≡◌, length, sym, ap, ◌∙◌, rules}
use Rattle.ms_arena.specs.inner.Packing.{Row}
use Rattle.ms_arena.proofs.PackingLemmas.{length-cells_of}
use Rattle.ms_arena.proofs.cells.Cells.len.Goals as goal

pub returns : goal.returns
returns c =
    let held : c.len.result ≡ length c.self.inside.packed.items = search rules in
    held ∙ sym (length-cells_of c.self.inside.packed.items c.self.inside.uppers.items) ∙ ap (λ (row : Row). length row.cells) c.self.view_is
