use Rattle.ms_diagram.proofs.RelabelLemmas.{relabelling_table}
use Rattle.ms_diagram.proofs.store.Store.relabel_at.Goals as goal

pub returns-clause-table : goal.returns-clause-table
returns-clause-table c =
    relabelling_table (λ s. s.map.now) c.args.self.now c.walk.new.self (record { map = c.args.map }) c.walk.new.walk c.args.root c.walk.new.notes c.walk.result c.walk.ensures
