use Rattle.ms_diagram.proofs.BringLemmas.{bringing_builds, bringing_table}
use Rattle.ms_diagram.proofs.store.Store.bring_at.Goals as goal

pub returns-clause-builds : goal.returns-clause-builds
returns-clause-builds c =
    bringing_builds (λ s. s.from.now.nodes) (λ s. s.map.now) c.args.self.now c.walk.new.self (record { from = c.args.from; map = c.args.map }) c.walk.new.walk
    c.args.root c.walk.new.notes c.walk.result c.walk.ensures

pub returns-clause-table : goal.returns-clause-table
returns-clause-table c =
    bringing_table (λ s. s.from.now.nodes) (λ s. s.map.now) c.args.self.now c.walk.new.self (record { from = c.args.from; map = c.args.map }) c.walk.new.walk
    c.args.root c.walk.new.notes c.walk.result c.walk.ensures
