use Rattle.std.proofs.Common.{◌≡◌, ◌++◌}
use Rattle.ms_lower.proofs.exports.joined.Given as goal

abbrev pub invariant-loop-item : goal.invariant-loop-item
invariant-loop-item g l = l.all ≡ l.fn.front ++ l.yielded
