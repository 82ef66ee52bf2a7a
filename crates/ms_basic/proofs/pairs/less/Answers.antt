use Rattle.std.proofs.Common.{refl, false, [], ◌∷◌, subst}
use Rattle.ms_logic_core.specs.declared.core_formula.Basic.TheVariants.{Less}
use Rattle.ms_basic.specs.Operands.{number}
use Rattle.ms_basic.specs.inner.Relation.{DecidesRelation}
use Rattle.ms_basic.specs.inner.Repeated.{one_number_table}
use Rattle.ms_basic.proofs.RepeatedLemmas.{decides_less_itself}
use Rattle.ms_basic.proofs.ApartOverLemmas.{apart_one}
use Rattle.ms_basic.proofs.SmallApart.{one_number_apart}
use Rattle.ms_basic.proofs.ReachedOverLemmas.{reached_one}
use Rattle.ms_basic.proofs.TablesReached.{one_number_reached}
use Rattle.ms_basic.proofs.pairs.less.Goals as goal

pub made-requires-clause-decides : goal.made-requires-clause-decides
made-requires-clause-decides c =
    subst (λ y. DecidesRelation c.args.setting.mode (number c.args.x ∷ []) (Less c.args.x y) (one_number_table false)) c.if-x-y.true (decides_less_itself c.args.setting.mode c.args.x)

pub made-requires-clause-apart : goal.made-requires-clause-apart
made-requires-clause-apart c = apart_one (number c.args.x) (one_number_table false) refl (one_number_apart false)

pub made-requires-clause-reached : goal.made-requires-clause-reached
made-requires-clause-reached c = reached_one (number c.args.x) (one_number_table false) refl (one_number_reached false)
