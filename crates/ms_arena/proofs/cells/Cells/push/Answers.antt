use Rattle.std.proofs.Common.{◌≡◌, ◌∷◌, [], ◌++◌, length, ap, ◌∙◌, rules}
use Rattle.ms_arena.specs.inner.Packing.{Row}
use Rattle.ms_arena.proofs.PackingLemmas.{cells_of-node}
use Rattle.ms_arena.proofs.cells.Cells.push.Goals as goal

pub returns-clause-cells : goal.returns-clause-cells
returns-clause-cells c =
    let all = c.self.inside.packed.items in
    let held : length all ≡ c.len.result = search rules in
    rw (c.push_reserved.ensures.items)
    (cells_of-node all c.self.inside.uppers.items c.note.new.uppers.items c.len.result c.args.node c.code-low.result c.code-high.result held c.note.ensures.noted
    c.code-low.ensures.value c.code-low.ensures.small c.code-high.ensures.value c.code-high.ensures.small
    ∙ ap (λ (row : Row). row.cells ++ record { node = c.args.node; next = 0 } ∷ []) c.self.view_is)
