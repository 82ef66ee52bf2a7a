use Rattle.std.proofs.Common.{◌≡◌, drop}
use Rattle.ms_names_scopes.proofs.names.Names.unbind_all.Given as goal

abbrev pub invariant-loop-i : goal.invariant-loop-i
invariant-loop-i l = l.self ≡ drop l._i l.initial.self
