use Rattle.std.proofs.Common.{◌≡◌, [], replicate}
use Rattle.ms_best.proofs.Users.{Noted}
use Rattle.ms_best.proofs.graph.users.Given as goal

abbrev pub invariant-loop : goal.invariant-loop
invariant-loop l = l.users.items ≡ replicate l.index []

abbrev pub invariant-loop-place : goal.invariant-loop-place
invariant-loop-place l = Noted l.graph l.place l.users.items
