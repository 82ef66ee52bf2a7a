use Rattle.std.proofs.Common.{take}
use Rattle.ms_presburger_parse.specs.inner.Gathering.{Gathers}
use Rattle.ms_presburger_parse.proofs.Gatherings.{places_of}
use Rattle.ms_presburger_parse.proofs.free.+gathering.Given as goal

abbrev pub invariant-gather_all-loop-operand : goal.invariant-gather_all-loop-operand
invariant-gather_all-loop-operand l = Gathers l.initial.gathered l.gathered (places_of (take l.operand-index l.operands))
