use Rattle.std.proofs.Common.{◌≡◌, length}
use Rattle.ms_minim.specs.inner.Split.{AreZeros}
use Rattle.ms_minim.proofs.refinement.one_class.Given as goal

-- the states so far are in the class 0
abbrev pub invariant-loop : goal.invariant-loop
invariant-loop l = AreZeros l.classes × (length l.classes ≡ l.counter)
