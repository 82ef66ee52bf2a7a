use Rattle.std.proofs.Common.{◌≡◌, take}
use Rattle.ms_logic.specs.Lists.{Each}
use Rattle.ms_presburger.specs.Sets.{Scope, summands_of}
use Rattle.ms_presburger.specs.inner.Scopes.{IsAsIn, IsFactorSmall}
use Rattle.ms_presburger.proofs.summands.summands.Given as goal

abbrev pub invariant-loop-part : goal.invariant-loop-part
invariant-loop-part l = record {
  made : (scope : Scope) → IsAsIn scope l.bindings → l.terms ≡ summands_of scope (take l.part-index l.parts);
  small : Each IsFactorSmall (take l.part-index l.parts);
}
