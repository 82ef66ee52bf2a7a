use Rattle.std.proofs.Common.{refl}
use Rattle.std.proofs.lemmas.Bool.{false≢true}
use Rattle.ms_parse_print.proofs.Declared.{declared_step, declared_stop}
use Rattle.ms_parse_print.proofs.source_fit.items_fit.Goals as goal

pub returns-then-not-declaration_fits : goal.returns-then-not-declaration_fits
returns-then-not-declaration_fits c = (
  λ never. absurd (false≢true never),
  λ all. c.if-not-declaration_fits.ensures.1 (declared_stop c.args.items.now c.loop-item.item-index c.item-item.result c.loop-item-test.true c.item-item.is all),
)

pub loop-item-preserved : goal.loop-item-preserved
loop-item-preserved c =
    declared_step c.args.items.now c.loop-item.item-index c.item-item.result c.loop-item-test.true c.item-item.is c.loop-item.invariant (c.if-not-declaration_fits.ensures.0 refl)
