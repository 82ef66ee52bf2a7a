use Rattle.std.proofs.Common.{drop, map}
use Rattle.ms_logic_core.specs.Size.{extents_of_elements}
use Rattle.ms_logic.specs.View.{term_of, terms}
use Rattle.ms_lower.proofs.Counting.{CountsWith}
use Rattle.ms_lower.proofs.term_extents.+terms.Given as goal

abbrev pub invariant-count_elements-loop-element : goal.invariant-count_elements-loop-element
invariant-count_elements-loop-element l =
    CountsWith l.limit (extents_of_elements (terms (map term_of (drop l.element-index l.elements)))) (extents_of_elements (terms (map term_of l.elements))) l.counted
