use Rattle.std.proofs.Common.{◌≡◌, max, drop}
use Rattle.ms_logic.specs.Letters.{bound_of_set}
use Rattle.ms_best.proofs.decoding.bound_of_set.Given as goal

abbrev pub invariant-loop-member : goal.invariant-loop-member
invariant-loop-member l = max l.bound (bound_of_set (drop l.member-index l.members)) ≡ bound_of_set l.members
