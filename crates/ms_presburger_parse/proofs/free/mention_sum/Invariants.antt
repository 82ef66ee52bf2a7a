use Rattle.std.proofs.Common.{take}
use Rattle.ms_presburger.specs.Tree.{names_in_sum}
use Rattle.ms_presburger_parse.specs.inner.Gathering.{Gathers}
use Rattle.ms_presburger_parse.proofs.free.mention_sum.Given as goal

abbrev pub invariant-loop-part : goal.invariant-loop-part
invariant-loop-part l = Gathers l.initial.gathered l.gathered (names_in_sum (take l.part-index l.parts))
