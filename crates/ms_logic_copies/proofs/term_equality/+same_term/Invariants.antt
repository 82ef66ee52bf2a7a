use Rattle.std.proofs.Common.{◌≡◌, take}
use Rattle.ms_logic_copies.proofs.term_equality.+same_term.Given as goal

abbrev pub invariant-same_elements-loop-i : goal.invariant-same_elements-loop-i
invariant-same_elements-loop-i l = take l.i l.a ≡ take l.i l.b
