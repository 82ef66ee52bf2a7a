use Rattle.std.proofs.Common.{◌<◌, length}
use Rattle.ms_cert.proofs.separation.parted.Given as goal

abbrev pub invariant-loop-state : goal.invariant-loop-state
invariant-loop-state l = l.least < length l.partition.parents.items
