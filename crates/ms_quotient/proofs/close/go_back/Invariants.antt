use Rattle.std.proofs.Common.{◌≡◌, ◌≤◌, drop, length}
use Rattle.ms_quotient.specs.Way.{union_along, written_along}
use Rattle.ms_quotient.proofs.close.go_back.Given as goal

abbrev pub invariant-loop-left : goal.invariant-loop-left
invariant-loop-left l = record {
  within : l.left ≤ length l.way;
  met : l.met ≡ union_along l.marks (drop l.left l.way) l.fn.end;
  written : l.closed ≡ written_along l.marks l.fn.closed (drop l.left l.way) l.fn.end;
}

abbrev pub decreases-loop-left : goal.decreases-loop-left
decreases-loop-left l = l.left
