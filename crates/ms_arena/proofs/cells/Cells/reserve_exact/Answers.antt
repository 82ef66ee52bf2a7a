use Rattle.std.proofs.Common.{◌≡◌, length, ap, arith, rules}
use Rattle.ms_arena.specs.inner.Packing.{Row}
use Rattle.ms_arena.proofs.PackingLemmas.{length-cells_of}
use Rattle.ms_arena.proofs.cells.Cells.reserve_exact.Goals as goal

pub overflow_add-more : goal.overflow_add-more
overflow_add-more c =
    let held : c.len.result ≡ length c.self.inside.packed.items = search rules in
    let counted = length-cells_of c.self.inside.packed.items c.self.inside.uppers.items in
    let seen = ap (λ (row : Row). length row.cells) c.self.view_is in
    let small = c.requires in
    omega (arith, held, counted, seen, small)
