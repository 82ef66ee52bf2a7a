use Rattle.std.proofs.Common.{Contains, sym, subst}
use Rattle.ms_diagram.specs.Collect.{HaveSameItems}
use Rattle.ms_dag.specs.Places.{AreAmong}
use Rattle.ms_dag.proofs.Members.{All-by}
use Rattle.ms_dag.proofs.relations.share_import.Goals as goal

pub places-requires-clause-there : goal.places-requires-clause-there
places-requires-clause-there c =
    let same = subst (λ list. HaveSameItems list c.rising-names.result) c.in_ok-copied.ensures c.rising-names.ensures.same in
    subst (λ list. AreAmong list c.args.variables.now) (sym c.slice.ensures) (All-by (Contains c.rising-names.result) c.args.variables.now same.there)
