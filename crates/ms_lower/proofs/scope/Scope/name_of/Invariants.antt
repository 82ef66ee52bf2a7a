use Rattle.std.proofs.Common.{◌≡◌, ◌≤◌, length, take}
use Rattle.ms_lower.specs.inner.Scope.{names_in}
use Rattle.ms_lower.proofs.scope.Scope.name_of.Given as goal

-- none of the variables behind these is the one
abbrev pub invariant-loop-i : goal.invariant-loop-i
invariant-loop-i l = record {
  within : l.i ≤ length l.self;
  same : names_in (take l.i l.self) l.order l.variable ≡ names_in l.self l.order l.variable;
}

abbrev pub decreases-loop-i : goal.decreases-loop-i
decreases-loop-i l = l.i
