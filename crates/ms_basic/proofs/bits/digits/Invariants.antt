use Rattle.std.proofs.Common.{◌≡◌, ◌⊎◌, ◌-◌, ◌^◌, ◌≤◌}
use Rattle.ms_basic.proofs.bits.digits.Given as goal

-- the number has as many digits as were counted, or more
abbrev pub invariant-loop-digits : goal.invariant-loop-digits
invariant-loop-digits l = (l.digits ≤ 64) × ((l.digits ≡ 0) ⊎ (2 ^ (l.digits - 1) ≤ l.number))

abbrev pub decreases-loop-digits : goal.decreases-loop-digits
decreases-loop-digits l = 64 - l.digits
