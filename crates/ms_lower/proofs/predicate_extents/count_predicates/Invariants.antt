use Rattle.std.proofs.Common.{◌≡◌, take, map, length}
use Rattle.ms_logic_core.specs.Size.{extents_of}
use Rattle.ms_logic.specs.View.{predicate_of}
use Rattle.ms_lower.specs.inner.Extents.{HasEntries}
use Rattle.ms_lower.proofs.predicate_extents.count_predicates.Given as goal

abbrev pub invariant-loop-i : goal.invariant-loop-i
invariant-loop-i l = record {
  entries : HasEntries (extents_of (map predicate_of (take l.i l.predicates))) l.called;
  count : length l.called ≡ l.i;
}
