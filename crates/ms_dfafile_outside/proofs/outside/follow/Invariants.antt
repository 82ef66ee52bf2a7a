use Rattle.std.proofs.Common.{◌-◌, length}
use Rattle.ms_dfa.specs.Files.{content_of_file}
use Rattle.ms_dfafile_outside.specs.declared.label.Label.TheVariants.{Seen}
use Rattle.ms_dfafile_outside.specs.inner.Labels.{AreLabels, AreSettled, HasArrived}
use Rattle.ms_dfafile_outside.proofs.outside.follow.Given as goal

-- the first references with a label are settled
abbrev pub invariant-loop-done : goal.invariant-loop-done
invariant-loop-done l = record {
  labels : AreLabels (content_of_file l.plain) l.labels.known.items l.labels.work;
  settled : AreSettled (content_of_file l.plain) l.labels.known.items l.labels.work l.done;
  start : HasArrived (content_of_file l.plain) l.labels.known.items l.plain.start (Seen 0) (length l.plain.variables);
}

abbrev pub decreases-loop-done : goal.decreases-loop-done
decreases-loop-done l = 18446744073709551616 - l.done
