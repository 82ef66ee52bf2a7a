use Rattle.std.proofs.Common.{◌≡◌, map, take}
use Rattle.ms_lower.specs.Numbering.{numbering_of}
use Rattle.ms_lower.specs.inner.Scope.{names_in}
use Rattle.ms_lower.proofs.relations.pair_numbers.Given as goal

abbrev pub invariant-loop-pair : goal.invariant-loop-pair
invariant-loop-pair l =
    l.numbers ≡ map (λ pair. (numbering_of l.tables).number pair.order (names_in l.scope pair.order pair.variable)) (take l.pair-index l.pairs)
