use Rattle.std.proofs.Common.{◌≡◌, ℕ, ◌<◌, length}
use Rattle.ms_quotient.specs.Way.{IsClosedWhereSeen, IsSeen}
use Rattle.ms_quotient.proofs.close.close_zeros.Given as goal

-- the places so far have been seen
abbrev pub invariant-loop-start : goal.invariant-loop-start
invariant-loop-start l = record {
  seen_long : length l.seen.items ≡ length l.next;
  closed_long : length l.closed.items ≡ length l.next;
  seen : (place : ℕ) → place < l.start → IsSeen l.seen.items place;
  closed : IsClosedWhereSeen l.next l.marks l.seen.items l.closed.items;
}
