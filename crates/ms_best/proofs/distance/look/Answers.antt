use Rattle.std.proofs.Common.{ℕ, ◌+◌, List, drop, subst, arith}
use Rattle.std.proofs.lemmas.List.{drop_more}
use Rattle.ms_best.specs.inner.Search.{IsSearch}
use Rattle.ms_best.proofs.distance.look.Goals as goal

pub loop-place-preserved : goal.loop-place-preserved
loop-place-preserved c = record {
  search =
      c.in_ok-look_at.ensures.search (drop (c.loop-place.place-index + 1) c.args.due.now)
      (subst (λ (due : List ℕ). IsSearch c.args.graph.now c.args.far c.loop-place.distances.items c.loop-place.nearer.items due)
      (drop_more c.args.due.now c.loop-place.place-index 0 c.loop-place-test.true) c.loop-place.invariant.search);
  fewer = omega (arith, c.in_ok-look_at.ensures.fewer, c.loop-place.invariant.fewer);
}
