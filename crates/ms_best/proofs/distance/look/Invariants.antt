use Rattle.std.proofs.Common.{◌+◌, ◌*◌, ◌≤◌, length, drop}
use Rattle.std.specs.List.{sum}
use Rattle.ms_best.specs.inner.Search.{IsSearch}
use Rattle.ms_best.proofs.distance.look.Given as goal

abbrev pub invariant-loop-place : goal.invariant-loop-place
invariant-loop-place l = record {
  search : IsSearch l.graph l.far l.distances.items l.nearer.items (drop l.place-index l.due);
  fewer : 2 * sum l.distances.items + length l.nearer.items ≤ 2 * sum l.initial.distances.items + length l.initial.nearer.items;
}
