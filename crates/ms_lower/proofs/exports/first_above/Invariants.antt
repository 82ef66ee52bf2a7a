use Rattle.std.proofs.Common.{◌≡◌, drop, max}
use Rattle.ms_lower.specs.NumberedRoots.{above_all}
use Rattle.ms_lower.proofs.exports.first_above.Given as goal

abbrev pub invariant-loop-variable : goal.invariant-loop-variable
invariant-loop-variable l = max l.first (above_all (drop l.variable-index l.variables)) ≡ above_all l.variables
