use Rattle.ms_diagram.specs.inner.Adding.{AddsOnly-same}
use Rattle.ms_diagram.specs.Apply.{HasLeaves, LacksPair, PairNumber}
use Rattle.ms_diagram.proofs.Building.{Builds-memory}
use Rattle.ms_diagram.proofs.store.Store.apply.Goals as goal

pub returns-in_default-clause-builds : goal.returns-in_default-clause-builds
returns-in_default-clause-builds c =
    let nodes = c.args.self.now.nodes in
    rw c.in_default.ensures.refused (Builds-memory c.args.self.now (PairNumber nodes c.args.pairs.now c.args.f c.args.g) (LacksPair nodes c.args.pairs.now c.args.f c.args.g) c.len-2.ensures.store)

pub returns-in_default-clause-added : goal.returns-in_default-clause-added
returns-in_default-clause-added c = AddsOnly-same (HasLeaves c.args.self.now.nodes c.args.f c.args.g) c.args.pairs.now
