use Rattle.ms_basic.proofs.BitsLemmas.{decides_bits}
use Rattle.std.proofs.Common.{refl, sym, subst}
use Rattle.ms_basic.specs.Bits.{bits_table}
use Rattle.ms_basic.specs.Operands.{set}
use Rattle.ms_basic.specs.inner.Apart.{HasStatesApart}
use Rattle.ms_basic.proofs.ApartOverLemmas.{apart_one}
use Rattle.ms_basic.proofs.BitsApart.{bits_apart}
use Rattle.ms_basic.proofs.ReachedOverLemmas.{reached_one}
use Rattle.ms_basic.proofs.TablesReached.{bits_reached}
use Rattle.ms_basic.proofs.bits.bits.Goals as goal

pub made-requires-clause-decides : goal.made-requires-clause-decides
made-requires-clause-decides c = decides_bits c.args.setting.mode c.args.s c.args.n c.digits.result c.digits.ensures.digits

pub made-requires-clause-apart : goal.made-requires-clause-apart
made-requires-clause-apart c =
    apart_one (set c.args.s) (bits_table c.args.setting.mode c.args.n c.digits.result) refl
    (subst (λ digits. HasStatesApart 1 (bits_table c.args.setting.mode c.args.n digits)) (sym c.digits.ensures.digits) (bits_apart c.args.setting.mode c.args.n))

pub made-requires-clause-reached : goal.made-requires-clause-reached
made-requires-clause-reached c =
    reached_one (set c.args.s) (bits_table c.args.setting.mode c.args.n c.digits.result) refl (bits_reached c.args.setting.mode c.args.n c.digits.result)
