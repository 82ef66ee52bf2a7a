use Rattle.std.proofs.Common.{◌≡◌, ◌≤◌, drop, length, take}
use Rattle.ms_lower.specs.inner.Scope.{all_named, names_in}
use Rattle.ms_lower.proofs.scope.enter_named.Given as goal

abbrev pub invariant-loop-i : goal.invariant-loop-i
invariant-loop-i l = record {
  within : l.i ≤ length l.named;
  names : names_in l.scope ≡ all_named (drop l.i l.named) (names_in l.initial.scope);
  kept : take (length l.initial.scope) l.scope ≡ l.initial.scope;
  longer : length l.initial.scope ≤ length l.scope;
}

abbrev pub decreases-loop-i : goal.decreases-loop-i
decreases-loop-i l = l.i
