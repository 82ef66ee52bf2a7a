use Rattle.std.proofs.Common.{◌≡◌, length}
use Rattle.ms_logic_core.specs.CoreForm.{core_form_of}
use Rattle.ms_lower.specs.inner.Given.{below_all}
use Rattle.ms_lower.proofs.given.over_all.Given as goal

abbrev pub invariant-loop-last : goal.invariant-loop-last
invariant-loop-last l = below_all l.outer.items (core_form_of l.core) ≡ below_all l.fn.defined (core_form_of l.fn.body)

abbrev pub decreases-loop-last : goal.decreases-loop-last
decreases-loop-last l = length l.outer.items
