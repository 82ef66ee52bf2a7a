use Rattle.std.proofs.Common.{refl}
use Rattle.ms_basic.specs.Operands.{number}
use Rattle.ms_basic.specs.inner.Pairs.{pair_table}
use Rattle.ms_basic.proofs.ApartOverLemmas.{apart_two, orders_of_two}
use Rattle.ms_basic.proofs.PairLemmas.{pair_apart, pair_decides, pair_operands, pair_reached, second, second_in_letters}
use Rattle.ms_basic.proofs.ReachedOverLemmas.{reached_two}
use Rattle.ms_basic.proofs.pairs.pair.Goals as goal

pub made-requires-clause-orders : goal.made-requires-clause-orders
made-requires-clause-orders c =
    rw (c.pair_form-form.ensures, pair_operands c.args.relation c.args.x c.args.other)
    (orders_of_two (number c.args.x) (second c.args.relation c.args.other) c.requires.differ)

pub made-requires-clause-decides : goal.made-requires-clause-decides
made-requires-clause-decides c = rw c.pair_form-form.ensures (pair_decides c.args.setting.mode c.args.relation c.args.x c.args.other)

pub made-requires-clause-apart : goal.made-requires-clause-apart
made-requires-clause-apart c =
    rw (c.pair_form-form.ensures, pair_operands c.args.relation c.args.x c.args.other)
    (apart_two (number c.args.x) (second c.args.relation c.args.other) (pair_table c.args.relation) c.requires.differ refl (second_in_letters c.args.relation) (pair_apart c.args.relation))

pub made-requires-clause-reached : goal.made-requires-clause-reached
made-requires-clause-reached c =
    rw (c.pair_form-form.ensures, pair_operands c.args.relation c.args.x c.args.other)
    (reached_two (number c.args.x) (second c.args.relation c.args.other) (pair_table c.args.relation) c.requires.differ refl (second_in_letters c.args.relation) (pair_reached c.args.relation))
