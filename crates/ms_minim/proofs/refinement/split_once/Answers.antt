use Rattle.std.proofs.Common.{sym, subst}
use Rattle.ms_minim.specs.inner.Partition.{AreMarks}
use Rattle.ms_minim.proofs.PartitionLemmas.{IsPassed-split}
use Rattle.ms_minim.proofs.refinement.split_once.Goals as goal

pub returns-clause-finer : goal.returns-clause-finer
returns-clause-finer c =
    let content = c.args.automaton.now in
    let classes = c.args.partition.now.classes in
    let are = subst (AreMarks content classes) (sym c.slice.ensures) (subst (λ list. AreMarks content list c.in_ok-marks.marks) c.slice-classes.ensures c.in_ok-marks.ensures) in
    IsPassed-split content c.states.ensures.automaton classes c.args.partition.now.members c.requires.partition c.slice.result.now are c.in_ok-finer.finer.classes c.in_ok-finer.finer.members c.in_ok-finer.ensures
