use Rattle.std.proofs.Common.{subst, rules}
use Rattle.ms_diagram.specs.Across.{HasLeavesAcross, IsPairedAcross, NumberAcross, LacksAcross}
use Rattle.ms_diagram.specs.Growth.{Builds}
use Rattle.ms_diagram.specs.Numbering.{AddsOnly}
use Rattle.ms_diagram.specs.Table.{EachEntry}
use Rattle.ms_diagram.proofs.AcrossLemmas.{crossing_builds, crossing_added, crossing_table}
use Rattle.ms_diagram.proofs.store.Store.cross.Goals as goal

pub returns-clause-builds : goal.returns-clause-builds
returns-clause-builds g c =
    let sides = c.args.sides.now in
    subst (λ pairs. Builds c.args.self.now c.walk.new.self (NumberAcross sides pairs c.args.roots) (LacksAcross sides pairs c.args.roots) c.walk.result)
    (search rules)
    (crossing_builds (λ s. s.sides.now) (λ s. s.pairs.now) (λ s. s.pairs.ghost_name) c.args.self.now c.walk.new.self _ c.walk.new.walk
    c.args.roots (g.T.Notes.entries c.walk.new.notes) c.walk.result c.walk.ensures)

pub returns-clause-added : goal.returns-clause-added
returns-clause-added g c =
    subst (λ pairs. AddsOnly (HasLeavesAcross c.args.sides.now c.args.roots) c.args.pairs.now pairs)
    (search rules)
    (crossing_added (λ s. s.sides.now) (λ s. s.pairs.now) (λ s. s.pairs.ghost_name) c.args.self.now c.walk.new.self _ c.walk.new.walk
    c.args.roots (g.T.Notes.entries c.walk.new.notes) c.walk.result c.walk.ensures)

pub returns-clause-table : goal.returns-clause-table
returns-clause-table g c =
    subst (λ pairs. EachEntry (IsPairedAcross c.args.sides.now pairs c.walk.new.self.nodes) (g.T.Notes.entries c.walk.new.notes))
    (search rules)
    (crossing_table (λ s. s.sides.now) (λ s. s.pairs.now) (λ s. s.pairs.ghost_name) c.args.self.now c.walk.new.self _ c.walk.new.walk
    c.args.roots (g.T.Notes.entries c.walk.new.notes) c.walk.result c.walk.ensures)
