use Rattle.std.proofs.Common.{◌≡◌, length}
use Rattle.ms_minim.specs.inner.Grouping.{AreGrouped, AreSplitters}
use Rattle.ms_minim.proofs.rounds.group.Given as goal

abbrev pub invariant-loop : goal.invariant-loop
invariant-loop l =
    AreGrouped l.automaton l.groups.classes.items l.groups.members.items × AreSplitters l.splitters.chosen l.splitters.numbers.items
    × (length l.splitters.numbers.items ≡ length l.groups.members.items)
