use Rattle.std.proofs.Common.{◌≡◌, take}
use Rattle.ms_cert.proofs.levels.copy_letters.Given as goal

-- the letters so far
abbrev pub invariant-loop-letter : goal.invariant-loop-letter
invariant-loop-letter l = l.made.items ≡ take l.letter-index l.letters
