use Rattle.std.proofs.Common.{refl, ◌==◌, [], ◌∷◌, subst}
use Rattle.ms_logic_core.specs.declared.core_formula.Basic.TheVariants.{Plus}
use Rattle.ms_basic.specs.Operands.{number}
use Rattle.ms_basic.specs.inner.Relation.{DecidesRelation}
use Rattle.ms_basic.specs.inner.Repeated.{one_number_table}
use Rattle.ms_basic.proofs.BitLemmas.{told}
use Rattle.ms_basic.proofs.PlusLemmas.{decides_plus}
use Rattle.ms_basic.proofs.RepeatedLemmas.{decides_plus_itself}
use Rattle.ms_basic.specs.inner.Plus.{plus_table}
use Rattle.ms_basic.proofs.ApartOverLemmas.{apart_one, apart_two}
use Rattle.ms_basic.proofs.PlusApart.{plus_apart}
use Rattle.ms_basic.proofs.SmallApart.{one_number_apart}
use Rattle.ms_basic.proofs.ReachedOverLemmas.{reached_one, reached_two}
use Rattle.ms_basic.proofs.TablesReached.{one_number_reached, plus_reached}
use Rattle.ms_basic.proofs.plus.plus.Goals as goal

pub made-requires-clause-decides : goal.made-requires-clause-decides
made-requires-clause-decides c =
    subst (λ y. DecidesRelation c.args.setting.mode (number c.args.x ∷ []) (Plus c.args.x y c.args.n) (one_number_table (c.args.n == 0))) c.if-x-y.true
    (decides_plus_itself c.args.setting.mode c.args.x c.args.n (c.args.n == 0) (told c.args.n 0))

pub made-requires-2-clause-decides : goal.made-requires-2-clause-decides
made-requires-2-clause-decides c = decides_plus c.args.setting.mode c.args.x c.args.y c.args.n

pub made-requires-clause-apart : goal.made-requires-clause-apart
made-requires-clause-apart c = apart_one (number c.args.x) (one_number_table (c.args.n == 0)) refl (one_number_apart (c.args.n == 0))

pub made-requires-2-clause-apart : goal.made-requires-2-clause-apart
made-requires-2-clause-apart c = apart_two (number c.args.x) (number c.args.y) (plus_table c.args.n) c.if-x-y.false refl refl (plus_apart c.args.n)

pub made-requires-clause-reached : goal.made-requires-clause-reached
made-requires-clause-reached c = reached_one (number c.args.x) (one_number_table (c.args.n == 0)) refl (one_number_reached (c.args.n == 0))

pub made-requires-2-clause-reached : goal.made-requires-2-clause-reached
made-requires-2-clause-reached c = reached_two (number c.args.x) (number c.args.y) (plus_table c.args.n) c.if-x-y.false refl refl (plus_reached c.args.n)
