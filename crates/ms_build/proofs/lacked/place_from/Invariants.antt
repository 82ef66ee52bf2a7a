use Rattle.std.proofs.Common.{length, ◌-◌}
use Rattle.ms_dfa.specs.Automaton.{variables_of}
use Rattle.ms_build.specs.inner.Lacked.{AreBelow}
use Rattle.ms_build.proofs.lacked.place_from.Given as goal

-- what was passed is lower
abbrev pub invariant-loop-next : goal.invariant-loop-next
invariant-loop-next l = AreBelow (variables_of l.tracks) l.next l.variable

abbrev pub decreases-loop-next : goal.decreases-loop-next
decreases-loop-next l = length l.tracks - l.next
