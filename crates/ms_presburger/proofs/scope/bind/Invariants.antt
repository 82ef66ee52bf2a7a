use Rattle.std.proofs.Common.{◌≡◌, take}
use Rattle.ms_presburger.specs.Sets.{Scope}
use Rattle.ms_presburger.specs.inner.Scopes.{IsAsIn, bound_in, hidden_by}
use Rattle.ms_presburger.proofs.scope.bind.Given as goal

abbrev pub invariant-loop-i : goal.invariant-loop-i
invariant-loop-i l = record {
  scope : (scope : Scope) → IsAsIn scope l.fn.bindings → IsAsIn (bound_in l.x scope (take l.i l.names)) l.bindings;
  hidden : (scope : Scope) → IsAsIn scope l.fn.bindings → l.hidden ≡ hidden_by l.x scope (take l.i l.names);
}
