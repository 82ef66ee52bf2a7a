use Rattle.std.proofs.Common.{◌≡◌, ◌+◌, length}
use Rattle.ms_minim.specs.inner.Grouping.{AreSplitters}
use Rattle.ms_minim.proofs.splitters.more_classes.Given as goal

abbrev pub invariant-loop : goal.invariant-loop
invariant-loop l =
    (length l.splitters.numbers.items ≡ length l.initial.splitters.numbers.items + l.counter) × AreSplitters l.splitters.chosen l.splitters.numbers.items
