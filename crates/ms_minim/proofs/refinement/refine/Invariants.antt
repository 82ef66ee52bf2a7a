use Rattle.std.proofs.Common.{◌-◌, length}
use Rattle.ms_minim.specs.inner.Partition.{IsPartition}
use Rattle.ms_minim.proofs.refinement.refine.Given as goal

abbrev pub invariant-loop-partition : goal.invariant-loop-partition
invariant-loop-partition l = IsPartition l.automaton l.partition.classes l.partition.members

-- how many classes could still come
abbrev pub decreases-loop-partition : goal.decreases-loop-partition
decreases-loop-partition l = length l.automaton.states - length l.partition.members
