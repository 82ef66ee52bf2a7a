use Rattle.std.proofs.Common.{◌≡◌, ℕ, ◌+◌, ◌≤◌, List, drop, length}
use Rattle.ms_presburger.specs.Source.{place_of}
use Rattle.ms_presburger.specs.inner.Scopes.{variable_in}
use Rattle.ms_presburger.proofs.scope.free.Given as goal

abbrev pub invariant-loop-left : goal.invariant-loop-left
invariant-loop-left l = record {
  within : l.left ≤ length l.names;
  known : (other : List ℕ) → variable_in l.bindings other ≡ l.left + place_of (drop l.left l.names) other;
}

abbrev pub decreases-loop-left : goal.decreases-loop-left
decreases-loop-left l = l.left
