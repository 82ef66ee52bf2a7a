use Rattle.std.proofs.Common.{◌≡◌, take}
use Rattle.ms_cert.proofs.separation.are_same.Given as goal

-- the letters so far are the same
abbrev pub invariant-loop-place : goal.invariant-loop-place
invariant-loop-place l = take l.place l.letters ≡ take l.place l.others
