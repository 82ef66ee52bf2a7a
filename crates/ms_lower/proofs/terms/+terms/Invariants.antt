use Rattle.std.proofs.Common.{◌+◌, ◌*◌}
use Rattle.ms_logic.specs.View.{set_term_of, term_of}
use Rattle.ms_logic_core.specs.Size.{extent_of_number, extent_of_set}
use Rattle.ms_lower.specs.inner.Left.{left_of_elements}
use Rattle.ms_lower.proofs.terms.+terms.Given as goal

-- the sizes of terms; the elements of a literal come before each of them

abbrev pub decreases-define_number : goal.decreases-define_number
decreases-define_number l = 2 * (extent_of_number (term_of l.term.now)).size

abbrev pub decreases-define_set : goal.decreases-define_set
decreases-define_set l = 2 * (extent_of_set (set_term_of l.term.now)).size

abbrev pub decreases-define_elements : goal.decreases-define_elements
decreases-define_elements l = 2 * left_of_elements l.elements.now + 1
