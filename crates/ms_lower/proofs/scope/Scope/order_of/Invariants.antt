use Rattle.std.proofs.Common.{◌≡◌, ◌≤◌, [], length, take}
use Rattle.ms_lower.specs.NumberedRoots.{order_seen, seen_over}
use Rattle.ms_lower.proofs.scope.Scope.order_of.Given as goal

abbrev pub invariant-loop-i : goal.invariant-loop-i
invariant-loop-i l = record {
  within : l.i ≤ length l.self;
  same : order_seen (seen_over [] (take l.i l.self)) l.variable ≡ order_seen (seen_over [] l.self) l.variable;
}

abbrev pub decreases-loop-i : goal.decreases-loop-i
decreases-loop-i l = l.i
