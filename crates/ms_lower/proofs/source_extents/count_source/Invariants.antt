use Rattle.std.proofs.Common.{◌++◌, map, take}
use Rattle.ms_lower.specs.inner.Extents.{known_extents}
use Rattle.ms_lower.specs.TooDeep.{IsFound, part_of_formula, part_of_global}
use Rattle.ms_lower.proofs.source_extents.count_source.Given as goal

abbrev pub invariant-loop-global : goal.invariant-loop-global
invariant-loop-global l = IsFound (map (part_of_global (known_extents l.known)) (take l.global-index l.globals)) l.found

abbrev pub invariant-loop-placed : goal.invariant-loop-placed
invariant-loop-placed l =
    IsFound (map (part_of_global (known_extents l.known)) l.globals ++ map (part_of_formula (known_extents l.known)) (take l.placed-index l.formulas)) l.found
