use Rattle.std.proofs.Common.{◌≡◌, take}
use Rattle.ms_logic_copies.proofs.core_copy.+copy_core.Given as goal

abbrev pub invariant-copy_all-loop-operand : goal.invariant-copy_all-loop-operand
invariant-copy_all-loop-operand l = l.made ≡ take l.operand-index l.operands
