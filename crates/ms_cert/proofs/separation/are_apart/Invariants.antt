use Rattle.std.proofs.Common.{drop}
use Rattle.ms_dfa.specs.Files.{content_of_file}
use Rattle.ms_cert.specs.inner.Partition.{IsPartition, classes_of}
use Rattle.ms_cert.specs.inner.Separation.{AreWaiting, lists_of}
use Rattle.ms_cert.proofs.SeparationLemmas.{StandsFor}
use Rattle.ms_cert.proofs.separation.are_apart.Given as goal

-- the classes that wait and the lines that are left stand for all states and all lines
abbrev pub invariant-loop-line : goal.invariant-loop-line
invariant-loop-line l = record {
  partition : IsPartition (content_of_file l.file.plain.now) (classes_of l.partition);
  waiting : AreWaiting l.partition.members.items l.waiting.items;
  stands : StandsFor (content_of_file l.file.plain.now) l.lines (lists_of l.partition.members.items l.waiting.items) (drop l.line-index l.lines);
}
