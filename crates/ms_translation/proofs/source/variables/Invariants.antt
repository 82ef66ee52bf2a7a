use Rattle.std.proofs.Common.{◌≡◌, map, take}
use Rattle.ms_translation.specs.Source.{global_of}
use Rattle.ms_translation.proofs.source.variables.Given as goal

abbrev pub invariant-loop-name : goal.invariant-loop-name
invariant-loop-name l = l.made ≡ map global_of (take l.name-index l.names)
