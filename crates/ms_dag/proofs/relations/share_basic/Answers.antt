use Rattle.std.proofs.Common.{Contains, sym, subst}
use Rattle.ms_diagram.specs.Collect.{HaveSameItems}
use Rattle.ms_dag.specs.Places.{AreAmong}
use Rattle.ms_dag.specs.Unfolds.{names_of_basic}
use Rattle.ms_dag.proofs.Members.{All-by}
use Rattle.ms_dag.proofs.relations.share_basic.Goals as goal

pub placed_basic-own-requires-clause-there : goal.placed_basic-own-requires-clause-there
placed_basic-own-requires-clause-there c =
    let same = subst (λ list. HaveSameItems list c.rising-names.result) c.in_ok-basic_names.ensures c.rising-names.ensures.same in
    subst (λ list. AreAmong list (names_of_basic c.args.basic.now)) (sym c.slice.ensures) (All-by (Contains c.rising-names.result) (names_of_basic c.args.basic.now) same.there)
