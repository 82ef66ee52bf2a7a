use Rattle.std.proofs.Common.{sym, subst}
use Rattle.ms_minim.specs.inner.Hash.{AreCoarseMarks}
use Rattle.ms_minim.proofs.PartitionLemmas.{IsPartition-split}
use Rattle.ms_minim.proofs.hashes.split_by_hashes.Goals as goal

pub returns-clause-partition : goal.returns-clause-partition
returns-clause-partition c =
    let content = c.args.automaton.now in
    let old = c.args.partition.now in
    let made = c.in_ok-finer.finer in
    let are = subst (AreCoarseMarks content old.classes) (sym c.slice-2.ensures) (subst (λ classes. AreCoarseMarks content classes c.in_ok-marks.marks) c.slice-classes.ensures c.in_ok-marks.ensures) in
    IsPartition-split content c.states.ensures.automaton old.classes old.members c.requires.partition c.slice-2.result.now are made.classes made.members c.in_ok-finer.ensures
