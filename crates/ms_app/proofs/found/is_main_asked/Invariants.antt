use Rattle.std.proofs.Common.{◌≡◌, [], take}
use Rattle.ms_app.proofs.GoalLemmas.{declared_among}
use Rattle.ms_app.proofs.found.is_main_asked.Given as goal

-- no formula so far is a formula declaration
abbrev pub invariant-loop-placed : goal.invariant-loop-placed
invariant-loop-placed l = declared_among (take l.placed-index l.formulas) ≡ []
