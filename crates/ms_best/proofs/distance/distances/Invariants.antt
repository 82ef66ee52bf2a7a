use Rattle.std.proofs.Common.{◌+◌, ◌-◌, ◌*◌, [], length}
use Rattle.std.specs.List.{sum, range_with_len}
use Rattle.ms_best.specs.inner.Search.{IsSearch}
use Rattle.ms_best.proofs.distance.distances.Given as goal

abbrev pub invariant-loop-place : goal.invariant-loop-place
invariant-loop-place l = IsSearch l.graph l.far l.distances.items l.nearer.items (range_with_len l.place (length l.graph - l.place))

abbrev pub invariant-loop-found : goal.invariant-loop-found
invariant-loop-found l = IsSearch l.graph l.far l.distances.items l.nearer.items []

abbrev pub decreases-loop-found : goal.decreases-loop-found
decreases-loop-found l = 2 * sum l.distances.items + length l.nearer.items
