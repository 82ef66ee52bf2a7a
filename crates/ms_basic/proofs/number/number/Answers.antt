use Rattle.std.proofs.Common.{refl}
use Rattle.ms_basic.proofs.NumberLemmas.{decides_number}
use Rattle.ms_basic.specs.Operands.{number}
use Rattle.ms_basic.specs.inner.Number.{number_table}
use Rattle.ms_basic.proofs.ApartOverLemmas.{apart_one}
use Rattle.ms_basic.proofs.NumberApart.{number_apart}
use Rattle.ms_basic.proofs.ReachedOverLemmas.{reached_one}
use Rattle.ms_basic.proofs.TablesReached.{number_reached}
use Rattle.ms_basic.proofs.number.number.Goals as goal

pub made-requires-clause-decides : goal.made-requires-clause-decides
made-requires-clause-decides c = decides_number c.args.setting.mode c.args.x c.args.n

pub made-requires-clause-apart : goal.made-requires-clause-apart
made-requires-clause-apart c = apart_one (number c.args.x) (number_table c.args.n) refl (number_apart c.args.n)

pub made-requires-clause-reached : goal.made-requires-clause-reached
made-requires-clause-reached c = reached_one (number c.args.x) (number_table c.args.n) refl (number_reached c.args.n)
