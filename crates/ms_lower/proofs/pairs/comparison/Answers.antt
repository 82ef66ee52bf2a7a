use Rattle.std.proofs.lemmas.Result.{IfOk-weaker}
use Rattle.ms_logic.specs.declared.mode.Order.TheVariants.{One}
use Rattle.ms_logic_core.specs.Spread.{numbers_relate}
use Rattle.ms_lower.specs.Numbering.{numbering_of}
use Rattle.ms_lower.proofs.Lowering.{relation_lowered, relation_renumbered}
use Rattle.ms_lower.proofs.pairs.comparison.Goals as goal

pub returns : goal.returns
returns c =
    let n = numbering_of c.args.tables.now in
    IfOk-weaker c.over_two.result _ _ (λ core. relation_lowered n One One _ _ c.args.free (numbers_relate c.args.rel) c.in_ok-first.first c.in_ok-second.second _ _ (λ x y. (relation_renumbered n c.args.rel x y).0) c.in_ok-first.ensures c.in_ok-second.ensures c.in_ok-relates.ensures) c.over_two.ensures
