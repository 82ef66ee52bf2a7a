use Rattle.std.proofs.Common.{◌∙◌}
use Rattle.std.proofs.lemmas.Bool.{eqb-true}
use Rattle.std.proofs.lemmas.List.Filters.{dedup_is}
use Rattle.std.proofs.lemmas.Map.Keys.{IsStrictlyIncreasing-dedup}
use Rattle.std.specs.Cmp.{nat_eq_equiv}
use Rattle.ms_diagram.proofs.RootLemmas.{HaveSameItems-sorted}
use Rattle.ms_dag.proofs.rising.rising.Goals as goal

pub returns-clause-rising : goal.returns-clause-rising
returns-clause-rising c =
    let is = c.from.ensures ∙ dedup_is _ _ _ c.dedup.ensures.filtered in
    rw is (IsStrictlyIncreasing-dedup _ c.sort_unstable.ensures.sorted)

pub returns-clause-same : goal.returns-clause-same
returns-clause-same c =
    HaveSameItems-sorted nat_eq_equiv eqb-true c.args.numbers.items c.sort_unstable.new.self.items c.from.result
    c.sort_unstable.ensures.permutation (c.from.ensures ∙ dedup_is _ _ _ c.dedup.ensures.filtered)
