use Rattle.std.proofs.Common.{◌≡◌, ℕ, ◌≤◌, length, take}
use Rattle.ms_presburger.specs.Sets.{Scope}
use Rattle.ms_presburger.specs.inner.Scopes.{IsAsIn, bound_in, hidden_by}
use Rattle.ms_presburger.proofs.scope.unbind.Given as goal

abbrev pub invariant-loop-left : goal.invariant-loop-left
invariant-loop-left l = record {
  within : l.left ≤ length l.names;
  scope : (x : ℕ) (scope : Scope) → l.hidden ≡ hidden_by x scope l.names → IsAsIn (bound_in x scope l.names) l.fn.bindings →
      IsAsIn (bound_in x scope (take l.left l.names)) l.bindings;
}

abbrev pub decreases-loop-left : goal.decreases-loop-left
decreases-loop-left l = l.left
