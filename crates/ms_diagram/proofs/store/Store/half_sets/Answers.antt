use Rattle.std.proofs.Common.{false, true}
use Rattle.ms_diagram.proofs.RootLemmas.{AreHalves-sorted}
use Rattle.ms_diagram.proofs.store.Store.half_sets.Goals as goal

pub returns-clause-low : goal.returns-clause-low
returns-clause-low c =
    AreHalves-sorted c.args.self.now.nodes c.args.var c.args.roots.now false c.in_ok-low.low.items c.ordered_set.result c.in_ok-low.ensures.low c.ordered_set.ensures

pub returns-clause-high : goal.returns-clause-high
returns-clause-high c =
    AreHalves-sorted c.args.self.now.nodes c.args.var c.args.roots.now true c.in_ok-low.high.items c.ordered_set-2.result c.in_ok-low.ensures.high c.ordered_set-2.ensures
