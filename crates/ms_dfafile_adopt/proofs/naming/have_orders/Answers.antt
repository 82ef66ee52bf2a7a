use Rattle.std.proofs.Common.{refl, rules, subst}
use Rattle.std.proofs.lemmas.List.{take_all}
use Rattle.ms_dfafile_adopt.specs.inner.Map.{HaveOrdersAt}
use Rattle.ms_dfafile_adopt.proofs.ListLemmas.{item_at}
use Rattle.ms_dfafile_adopt.proofs.MapLemmas.{HaveOrdersAt-more}
use Rattle.ms_dfafile_adopt.proofs.naming.have_orders.Goals as goal

pub loop-i-preserved : goal.loop-i-preserved
loop-i-preserved c =
    let i = c.loop-i.i in
    let variable = c.index-variables-i.result in
    let pair = c.index-pairs-places.result in
    HaveOrdersAt-more c.args.variables.now c.args.pairs.now c.args.places.now i variable pair c.loop-i-test.true (item_at c.args.variables.now i variable c.loop-i-test.true c.index-variables-i.is)
    (item_at c.args.pairs.now _ pair (c.requires.within i c.loop-i-test.true) c.index-pairs-places.is) (search rules) c.loop-i.invariant

pub returns : goal.returns
returns c = (
  λ yes. subst (λ variables. HaveOrdersAt variables c.args.pairs.now c.args.places.now) (take_all c.loop-i.i c.args.variables.now c.loop-i-test.false) c.loop-i.invariant,
  λ have. refl,
)
