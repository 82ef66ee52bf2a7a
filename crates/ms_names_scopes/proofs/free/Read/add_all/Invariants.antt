use Rattle.std.proofs.Common.{◌≡◌, ◌++◌, take}
use Rattle.ms_names_rules.specs.inner.Free.{Readings}
use Rattle.ms_names_scopes.specs.inner.Read.{Tells}
use Rattle.ms_names_scopes.proofs.free.Read.add_all.Given as goal

abbrev pub invariant-loop-reading : goal.invariant-loop-reading
invariant-loop-reading l = record {
  tells : (rs : Readings) → Tells l.initial.self rs → Tells l.self (rs ++ take l.reading-index l.readings);
  left : l.self.left ≡ l.initial.self.left;
}
