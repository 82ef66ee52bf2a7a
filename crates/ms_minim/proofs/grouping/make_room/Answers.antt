use Rattle.std.proofs.Common.{[], ◌∷◌, length, length-append, sym, ap, subst, ◌∙◌, arith}
use Rattle.ms_minim.specs.inner.Predecessors.{AreBelow, IsListed}
use Rattle.ms_minim.proofs.GroupingLemmas.{IsListed-more, AreBelow-more}
use Rattle.ms_minim.proofs.grouping.make_room.Goals as goal

pub loop-preserved : goal.loop-preserved
loop-preserved c =
    let members = c.loop.groups.members.items in
    let were = c.loop.invariant in
    let now = c.in_ok-add_class.ensures in (
      now.classes ∙ were.0,
      ap length now.members ∙ (let longer = length-append members ([] ∷ []) in let count = were.1 in omega (arith, longer, count)),
      λ class state listed. subst (λ lists. IsListed lists class state) (sym now.members) (IsListed-more members class state (were.2 class state listed)),
      λ bound below. subst (AreBelow bound) (sym now.members) (AreBelow-more bound members (were.3 bound below)),
    )
