use Rattle.std.proofs.Common.{◌≡◌, take}
use Rattle.ms_logic_copies.proofs.core_copy.copy_variables.Given as goal

abbrev pub invariant-loop-variable : goal.invariant-loop-variable
invariant-loop-variable l = l.made ≡ take l.variable-index l.variables
