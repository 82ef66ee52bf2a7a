use Rattle.std.proofs.Common.{◌≡◌, ◌≤◌, drop, length}
use Rattle.ms_quotient.specs.Closure.{no_marks}
use Rattle.ms_quotient.specs.Way.{union_along}
use Rattle.ms_project.proofs.marks.marks_of_set.Given as goal

abbrev pub invariant-loop-left : goal.invariant-loop-left
invariant-loop-left l = record {
  within : l.left ≤ length l.set;
  met : l.met ≡ union_along l.marks (drop l.left l.set) no_marks;
}

abbrev pub decreases-loop-left : goal.decreases-loop-left
decreases-loop-left l = l.left
