use Rattle.std.proofs.Common.{◌<◌, length}
use Rattle.ms_cert.proofs.separation.near_parting.Given as goal

abbrev pub invariant-rising : goal.invariant-rising
invariant-rising l = record { first : l.first < length l.parents; second : l.second < length l.parents }
