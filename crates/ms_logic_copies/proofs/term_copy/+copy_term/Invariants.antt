use Rattle.std.proofs.Common.{◌≡◌, take}
use Rattle.ms_logic_copies.proofs.term_copy.+copy_term.Given as goal

abbrev pub invariant-copy_elements-loop-element : goal.invariant-copy_elements-loop-element
invariant-copy_elements-loop-element l = l.made ≡ take l.element-index l.elements
