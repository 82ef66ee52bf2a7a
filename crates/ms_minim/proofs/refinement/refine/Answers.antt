use Rattle.std.proofs.Common.{length, subst, arith}
use Rattle.ms_minim.specs.inner.Refined.{IsRefined}
use Rattle.ms_minim.proofs.PartitionLemmas.{fewer_left}
use Rattle.ms_minim.proofs.refinement.refine.Goals as goal

pub loop-partition-smaller : goal.loop-partition-smaller
loop-partition-smaller c =
    let content = c.args.automaton.now in
    let was = c.loop-partition.partition in
    let finer = c.in-Finer.finer in
    let later = c.in_ok-partition-2.partition in
    let refined = subst (IsRefined content c.args.origins.now.nodes.items was.classes was.members) c.in-Finer.is c.in_ok-finer.ensures in
    let more = refined.1 in
    fewer_left content later.classes later.members (length was.members) (length finer.members) c.in_ok-partition-2.ensures.partition
    (omega (arith, more)) (λ same. omega (arith, more, same)) c.in_ok-partition-2.ensures.more
