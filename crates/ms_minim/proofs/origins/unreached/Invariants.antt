use Rattle.std.proofs.Common.{◌≡◌, replicate}
use Rattle.ms_minim.specs.inner.Origin.{nowhere}
use Rattle.ms_minim.proofs.origins.unreached.Given as goal

-- so many so far
abbrev pub invariant-loop : goal.invariant-loop
invariant-loop l = l.made.items ≡ replicate l.counter nowhere
