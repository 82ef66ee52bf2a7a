use Rattle.std.proofs.Common.{◌≡◌, length}
use Rattle.try_signs.proofs.words.bits_of.Given as goal

-- one bit for each place so far
abbrev pub invariant-loop-place : goal.invariant-loop-place
invariant-loop-place l = length l.bits.items ≡ l.place
