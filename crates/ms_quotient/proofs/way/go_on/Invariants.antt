use Rattle.std.proofs.Common.{◌≡◌, ◌<◌, ◌⊎◌, All, length, not}
use Rattle.std.specs.Prelude.{count_by}
use Rattle.ms_quotient.specs.Way.{IsSeen, IsSeenAlong, LeadsTo}
use Rattle.ms_quotient.proofs.way.go_on.Given as goal

-- the way so far; just its places are seen now
abbrev pub invariant-loop-seen : goal.invariant-loop-seen
invariant-loop-seen l = record {
  way : LeadsTo l.next l.start l.places l.end;
  all : All (λ place. place < length l.next) l.places;
  within : l.end < length l.next;
  along : IsSeenAlong l.fn.seen l.seen l.places;
  here : IsSeen l.seen l.start ⊎ (l.start ≡ l.end);
}

-- the places that have not been seen
abbrev pub decreases-loop-seen : goal.decreases-loop-seen
decreases-loop-seen l = count_by not l.seen
