use Rattle.std.proofs.Common.{◌+◌}
use Rattle.ms_cert.proofs.StemLemmas.{AreOnWay}
use Rattle.ms_cert.proofs.partition.parting.Given as goal

-- the classes in which the states of both were before those above were split off
abbrev pub invariant-loop-first : goal.invariant-loop-first
invariant-loop-first l = AreOnWay l.parents l.one l.other l.first l.second

abbrev pub decreases-loop-first : goal.decreases-loop-first
decreases-loop-first l = l.first + l.second
