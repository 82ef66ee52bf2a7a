use Rattle.std.proofs.Common.{subst, rules}
use Rattle.ms_diagram.specs.Collect.{HasLeafSet, IsCollected, SetNumber, LacksSet}
use Rattle.ms_diagram.specs.Growth.{Builds}
use Rattle.ms_diagram.specs.Numbering.{AddsOnly}
use Rattle.ms_diagram.specs.Table.{EachEntry}
use Rattle.ms_diagram.proofs.CollectSteps.{collecting_builds, collecting_added, collecting_table}
use Rattle.ms_diagram.proofs.store.Store.collect_at.Goals as goal

pub walk-requires-clause-fits : goal.walk-requires-clause-fits
walk-requires-clause-fits c = (c.requires.order, rw c.new.ensures c.requires.read)

pub returns-clause-builds : goal.returns-clause-builds
returns-clause-builds c =
    let view = c.args.view.now in
    let roots = c.new.result in
    rw (← c.new.ensures)
    (subst (λ sets. Builds c.args.self.now c.walk.new.self (SetNumber view sets roots) (LacksSet view sets roots) c.walk.result)
    (search rules)
    (collecting_builds (λ s. s.view.now) (λ s. s.sets.now) (λ s. s.sets.ghost_name) (λ list. list) c.args.self.now c.walk.new.self _ c.walk.new.walk
    c.new.result c.walk.new.notes c.walk.result c.walk.ensures))

pub returns-clause-added : goal.returns-clause-added
returns-clause-added c =
    rw (← c.new.ensures)
    (subst (λ sets. AddsOnly (HasLeafSet c.args.view.now c.new.result) c.args.sets.now sets)
    (search rules)
    (collecting_added (λ s. s.view.now) (λ s. s.sets.now) (λ s. s.sets.ghost_name) (λ list. list) c.args.self.now c.walk.new.self _ c.walk.new.walk
    c.new.result c.walk.new.notes c.walk.result c.walk.ensures))

pub returns-clause-table : goal.returns-clause-table
returns-clause-table c =
    subst (λ sets. EachEntry (λ key. IsCollected c.args.view.now sets c.walk.new.self.nodes key) c.walk.new.notes)
    (search rules)
    (collecting_table (λ s. s.view.now) (λ s. s.sets.now) (λ s. s.sets.ghost_name) (λ list. list) c.args.self.now c.walk.new.self _ c.walk.new.walk
    c.new.result c.walk.new.notes c.walk.result c.walk.ensures)
