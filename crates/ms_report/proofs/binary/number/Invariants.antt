use Rattle.std.proofs.Common.{◌≡◌, take}
use Rattle.ms_report.specs.Numbers.{number_of_set}
use Rattle.ms_report.proofs.binary.number.Given as goal

-- the number of the places so far
abbrev pub invariant-loop-place : goal.invariant-loop-place
invariant-loop-place l = l.number ≡ number_of_set (take l.place-index l.set)
