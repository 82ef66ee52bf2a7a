use Rattle.std.proofs.Common.{length, sym, ap, subst, ◌∙◌, arith}
use Rattle.std.proofs.lemmas.List.{length-replicate}
use Rattle.ms_minim.specs.inner.Grouping.{AreListed}
use Rattle.ms_minim.specs.inner.Partition.{IsPartition}
use Rattle.ms_minim.specs.inner.Predecessors.{AreBelow}
use Rattle.ms_minim.proofs.PartitionLemmas.{few_classes}
use Rattle.ms_minim.proofs.SignatureLemmas.{AreGrouped-partition}
use Rattle.ms_minim.proofs.rounds.group.Goals as goal

pub overflow_cast-count : goal.overflow_cast-count
overflow_cast-count c =
    let partition = c.requires.partition in
    let few = few_classes c.args.partition.now.classes c.args.partition.now.members partition.inhabited in
    let all = partition.all in
    let states = c.states-states.ensures.states in
    let small = c.states-states.type_inv in
    let count = c.len-count.ensures in
    omega (arith, few, all, states, small, count)

pub loop-init : goal.loop-init
loop-init c =
    let content = c.args.automaton.now in
    let made = c.in_ok-groups.ensures in
    let classes = c.in_ok-groups.groups.classes.items in
    let members = c.in_ok-groups.groups.members.items in
    let same = made.classes ∙ c.in-Ok.ensures.items ∙ c.slice.ensures in
    let partition = subst (λ list. IsPartition content list c.args.partition.now.members) (sym same) c.requires.partition in (
      AreGrouped-partition content classes c.args.partition.now.members members partition (subst (λ list. AreListed list members) (sym made.classes) made.listed)
          (subst (λ list. AreBelow (length list) members) (sym made.classes) made.below),
      c.choose.ensures.chosen,
      c.choose.ensures.count ∙ ap length c.in_ok-zeros.ensures ∙ length-replicate c.len-count.result 0 ∙ sym made.count,
    )
