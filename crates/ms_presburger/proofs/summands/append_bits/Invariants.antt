use Rattle.std.proofs.Common.{◌≡◌, ◌++◌, map}
use Rattle.ms_presburger.specs.declared.summand.Summand.TheVariants.{Shifted as Moved}
use Rattle.ms_presburger.proofs.Bits.{bits_below}
use Rattle.ms_presburger.proofs.summands.append_bits.Given as goal

abbrev pub invariant-loop-j : goal.invariant-loop-j
invariant-loop-j l = l.terms ≡ l.fn.terms ++ map (λ j. Moved l.x j) (bits_below l.factor l.j)
