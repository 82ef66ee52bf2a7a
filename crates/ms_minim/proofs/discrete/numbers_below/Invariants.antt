use Rattle.ms_minim.specs.inner.Partition.{IsIdentity}
use Rattle.ms_minim.proofs.discrete.numbers_below.Given as goal

-- the numbers so far
abbrev pub invariant-loop-number : goal.invariant-loop-number
invariant-loop-number l = IsIdentity l.number l.numbers
