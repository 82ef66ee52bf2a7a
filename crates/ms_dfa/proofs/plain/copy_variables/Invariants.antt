use Rattle.std.proofs.Common.{◌≡◌, take}
use Rattle.ms_dfa.proofs.plain.copy_variables.Given as goal

-- the variables so far
abbrev pub invariant-loop-variable : goal.invariant-loop-variable
invariant-loop-variable l = l.made ≡ take l.variable-index l.variables
