use Rattle.std.proofs.Common.{◌≡◌, length}
use Rattle.ms_minim.proofs.GroupingLemmas.{AreForgotten}
use Rattle.ms_minim.proofs.splitters.forget.Given as goal

abbrev pub invariant-loop-class : goal.invariant-loop-class
invariant-loop-class l = (length l.numbers.items ≡ length l.initial.numbers.items) × AreForgotten l.chosen l.numbers.items l.class-index
