use Rattle.std.proofs.Common.{subst, refl, arith}
use Rattle.std.proofs.lemmas.Bool.{eqb-true}
use Rattle.std.proofs.lemmas.List.Filters.{dedup_is}
use Rattle.std.proofs.lemmas.Map.Keys.{IsStrictlyIncreasing-dedup}
use Rattle.std.specs.Cmp.{nat_eq_equiv}
use Rattle.ms_diagram.specs.Collect.{HaveSameItems, leaf_values}
use Rattle.ms_diagram.proofs.RootLemmas.{HaveSameItems-sorted, all_done}
use Rattle.ms_diagram.proofs.roots.leaf_set.Goals as goal

pub returns-clause-rising : goal.returns-clause-rising
returns-clause-rising c =
    let is = dedup_is _ _ _ c.dedup.ensures.filtered in
    rw is (IsStrictlyIncreasing-dedup _ c.sort_unstable.ensures.sorted)

pub returns-clause-same : goal.returns-clause-same
returns-clause-same c =
    let done = all_done leaf_values c.args.roots.now c.loop-root.values.items c.loop-root.root-index (omega arith) refl c.loop-root.invariant in
    subst (λ list. HaveSameItems list c.dedup.new.self.items) done
    (HaveSameItems-sorted nat_eq_equiv eqb-true c.loop-root.values.items c.sort_unstable.new.self.items c.dedup.new.self.items
    c.sort_unstable.ensures.permutation (dedup_is _ _ _ c.dedup.ensures.filtered))
