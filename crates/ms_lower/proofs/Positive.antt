-- Each term and each formula has a depth of 1 at least.
use Rattle.std.proofs.Common.{ℕ, ◌≤◌, arith}
use Rattle.ms_logic_core.specs.Size.{Extents, extent_under}
use Rattle.ms_logic.specs.Tree.{Form, truth, falsity, truth_variable, negation, conjunction, disjunction, implication, equivalence, comparison, set_comparison, membership, emptiness, quantified, where_let, call, restrict, imported, exported, default_at}

pub form_positive : (x : Extents) → ((p : ℕ) → 1 ≤ (x.default p).depth) → (f : Form) → 1 ≤ (extent_under x f).depth
form_positive x h truth = omega arith
form_positive x h falsity = omega arith
form_positive x h (truth_variable y) = omega arith
form_positive x h (negation f) = omega arith
form_positive x h (conjunction fs) = omega arith
form_positive x h (disjunction fs) = omega arith
form_positive x h (implication f g) = omega arith
form_positive x h (equivalence f g) = omega arith
form_positive x h (comparison r t u) = omega arith
form_positive x h (set_comparison r s t) = omega arith
form_positive x h (membership positive t s) = omega arith
form_positive x h (emptiness s) = omega arith
form_positive x h (quantified q o y d f) = omega arith
form_positive x h (where_let ys right_sides f) = omega arith
form_positive x h (call p given) = omega arith
form_positive x h (restrict f) = omega arith
form_positive x h (imported i) = omega arith
form_positive x h (exported i f) = omega arith
form_positive x h (default_at p y) = h p
