use Rattle.std.proofs.Common.{◌++◌, subst, ap, ◌∙◌}
use Rattle.ms_diagram.specs.Collect.{HaveSameItems}
use Rattle.ms_diagram.proofs.RootLemmas.{AreBothHalves-sorted}
use Rattle.ms_diagram.proofs.store.Store.both_halves.Goals as goal

pub returns : goal.returns
returns c =
    let low = c.in_ok-list.list.items in
    let high = c.in_ok-list.high.items in
    AreBothHalves-sorted c.args.self.now.nodes c.args.var c.args.roots.now low high c.ordered_set.result c.in_ok-list.ensures.low c.in_ok-list.ensures.high
    (subst (λ list. HaveSameItems list c.ordered_set.result) (c.in-Ok.ensures.items ∙ ap (λ rest. low ++ rest) c.as_slice.ensures.value) c.ordered_set.ensures)
