use Rattle.std.proofs.Common.{◌≡◌, take}
use Rattle.ms_logic_copies.proofs.equality.+same_formula.Given as goal

abbrev pub invariant-same_all-loop-i : goal.invariant-same_all-loop-i
invariant-same_all-loop-i l = take l.i l.a ≡ take l.i l.b

abbrev pub invariant-same_bindings-loop-i : goal.invariant-same_bindings-loop-i
invariant-same_bindings-loop-i l = take l.i l.a ≡ take l.i l.b

abbrev pub invariant-same_arguments-loop-i : goal.invariant-same_arguments-loop-i
invariant-same_arguments-loop-i l = take l.i l.a ≡ take l.i l.b
