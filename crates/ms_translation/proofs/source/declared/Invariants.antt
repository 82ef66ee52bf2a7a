use Rattle.std.proofs.Common.{◌≡◌}
use Rattle.ms_translation.specs.Source.{placed_from}
use Rattle.ms_translation.proofs.source.declared.Given as goal

abbrev pub invariant-loop-formula : goal.invariant-loop-formula
invariant-loop-formula l = l.made ≡ placed_from 1 l.yielded
