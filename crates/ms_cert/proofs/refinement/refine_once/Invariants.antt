use Rattle.std.proofs.Common.{◌≡◌, ◌+◌, ◌-◌, ◌≤◌, length}
use Rattle.ms_dfa.specs.Files.{content_of_file}
use Rattle.ms_cert.specs.inner.Partition.{IsPartition, classes_of}
use Rattle.ms_cert.specs.inner.Refinement.{AreSettledBelow, Refines}
use Rattle.ms_cert.proofs.refinement.refine_once.Given as goal

-- the states of the classes so far are alike
abbrev pub invariant-loop-class : goal.invariant-loop-class
invariant-loop-class l = record {
  partition : IsPartition (content_of_file l.file.plain.now) (classes_of l.partition);
  longer : length l.initial.partition.members.items ≤ length l.partition.members.items;
  same : length l.partition.members.items ≡ length l.initial.partition.members.items → l.round.classes.now ≡ l.partition.classes.items;
  refines : Refines l.partition.classes.items l.round.classes.now;
  settled : AreSettledBelow (content_of_file l.file.plain.now) l.round.classes.now l.partition.members.items l.class;
}

-- there are no more classes than states
abbrev pub decreases-loop-class : goal.decreases-loop-class
decreases-loop-class l = length l.file.plain.now.states + length l.file.plain.now.states - (l.class + length l.partition.members.items)
