use Rattle.std.proofs.Common.{◌-◌, length}
use Rattle.ms_dfa.specs.Files.{content_of_file}
use Rattle.ms_cert.specs.inner.Partition.{IsPartition, classes_of}
use Rattle.ms_cert.proofs.refinement.refine.Given as goal

abbrev pub invariant-rounds : goal.invariant-rounds
invariant-rounds l = IsPartition (content_of_file l.file.plain.now) (classes_of l.partition)

-- a round splits a class, or is the last one
abbrev pub decreases-rounds : goal.decreases-rounds
decreases-rounds l = length l.file.plain.now.states - length l.partition.members.items
