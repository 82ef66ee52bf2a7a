use Rattle.std.proofs.Common.{drop, map}
use Rattle.ms_logic_core.specs.Size.{extents_of_restrictions}
use Rattle.ms_logic.specs.View.{declaration_of}
use Rattle.ms_lower.specs.Counted.{deepest}
use Rattle.ms_lower.specs.inner.Extents.{known_extents}
use Rattle.ms_lower.proofs.Counting.{CountsWith}
use Rattle.ms_lower.proofs.predicate_extents.count_params.Given as goal

abbrev pub invariant-loop-param : goal.invariant-loop-param
invariant-loop-param l =
    CountsWith deepest (extents_of_restrictions (known_extents l.known) (map declaration_of (drop l.param-index l.params)))
    (extents_of_restrictions (known_extents l.known) (map declaration_of l.params)) l.counted
