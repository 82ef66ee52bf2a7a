use Rattle.std.proofs.Common.{take}
use Rattle.std.specs.List.{flat_map}
use Rattle.ms_parse_print.specs.inner.Printed.{AreSpellable}
use Rattle.ms_parse_print.proofs.said.can_say_all.Given as goal

-- the entries so far can be said
abbrev pub invariant-loop-entry : goal.invariant-loop-entry
invariant-loop-entry g l = AreSpellable (flat_map g.T.Entry.symbols (take l.entry-index l.entries))
