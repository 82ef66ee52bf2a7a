use Rattle.std.proofs.Common.{subst}
use Rattle.ms_diagram.specs.Collect.{HasLeafSet, SetNumber, LacksSet}
use Rattle.ms_diagram.specs.Growth.{Builds}
use Rattle.ms_diagram.specs.Numbering.{AddsOnly}
use Rattle.ms_diagram.proofs.Building.{Builds-memory}
use Rattle.ms_diagram.proofs.NumberingLemmas.{AddsOnly-same}
use Rattle.ms_diagram.proofs.store.Store.collect.Goals as goal

pub returns-in_default-clause-builds : goal.returns-in_default-clause-builds
returns-in_default-clause-builds c =
    Builds-memory c.args.self.now (SetNumber c.args.view.now c.args.sets.now c.args.roots.now) (LacksSet c.args.view.now c.args.sets.now c.args.roots.now) c.len-2.ensures.store

pub returns-clause-builds : goal.returns-clause-builds
returns-clause-builds c =
    let view = c.args.view.now in
    let sets = c.collect_at.new.sets in
    subst (λ roots. Builds c.args.self.now c.collect_at.new.self (SetNumber view sets roots) (LacksSet view sets roots) c.collect_at.result)
    c.in-Ok.ensures.items c.collect_at.ensures.builds

pub returns-in_default-clause-added : goal.returns-in_default-clause-added
returns-in_default-clause-added c = AddsOnly-same (HasLeafSet c.args.view.now c.args.roots.now) c.args.sets.now

pub returns-clause-added : goal.returns-clause-added
returns-clause-added c =
    subst (λ roots. AddsOnly (HasLeafSet c.args.view.now roots) c.args.sets.now c.collect_at.new.sets)
    c.in-Ok.ensures.items c.collect_at.ensures.added
