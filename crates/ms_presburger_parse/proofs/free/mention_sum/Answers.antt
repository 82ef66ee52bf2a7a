use Rattle.std.proofs.Common.{take, sym, subst}
use Rattle.ms_presburger.specs.Tree.{names_in_part, names_in_sum}
use Rattle.ms_presburger_parse.specs.inner.Gathering.{Gathers}
use Rattle.ms_presburger_parse.proofs.Gatherings.{gathers_append, sum-next}
use Rattle.ms_presburger_parse.proofs.free.mention_sum.Goals as goal

pub loop-part-preserved : goal.loop-part-preserved
loop-part-preserved c =
    let parts = c.args.parts.now in
    let i = c.loop-part.part-index in
    let next = sum-next parts i c.part-item.result c.loop-part-test.true c.part-item.is in
    subst (Gathers c.args.gathered.now c.mention_part.new.gathered) (sym next)
    (gathers_append c.args.gathered.now c.loop-part.gathered c.mention_part.new.gathered (names_in_sum (take i parts)) (names_in_part c.part-item.result) c.loop-part.invariant c.in_ok-mention_part.ensures)
