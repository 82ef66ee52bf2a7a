use Rattle.std.proofs.Common.{ℕ, ◌<◌, length}
use Rattle.ms_cert.specs.inner.Partition.{StemsFrom}
use Rattle.ms_cert.proofs.partition.stem.Given as goal

-- the class stems from what the one so far stems from
abbrev pub invariant-rising : goal.invariant-rising
invariant-rising l = record {
  within : l.own < length l.parents;
  stems : (stem : ℕ) → StemsFrom l.parents l.bound l.own stem → StemsFrom l.parents l.bound l.class stem;
}
