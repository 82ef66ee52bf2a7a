use Rattle.std.proofs.Common.{◌≡◌, ◌<◌, ◌^◌, sym, subst, arith}
use Rattle.ms_basic.proofs.BitsLemmas.{below_power, digits_are}
use Rattle.ms_basic.proofs.bits.digits.Goals as goal

pub returns-else-number-digits-ne0-clause-digits : goal.returns-else-number-digits-ne0-clause-digits
returns-else-number-digits-ne0-clause-digits c =
    digits_are c.args.number c.loop-digits.digits (below_power c.args.number c.loop-digits.digits c.if-number-digits-ne0.false) c.loop-digits.invariant.1

pub returns-after-loop-digits-clause-digits : goal.returns-after-loop-digits-clause-digits
returns-after-loop-digits-clause-digits c =
    let whole : c.loop-digits.digits ≡ 64 = omega (arith, c.loop-digits.invariant.0, c.loop-digits-test.false) in
    digits_are c.args.number c.loop-digits.digits (subst (λ k. c.args.number < 2 ^ k) (sym whole) c.ranges.number.fits) c.loop-digits.invariant.1
