use Rattle.std.proofs.Common.{◌≡◌, ◌++◌, take}
use Rattle.ms_cert.proofs.refinement.append_letters.Given as goal

abbrev pub invariant-loop-letter : goal.invariant-loop-letter
invariant-loop-letter l = l.made ≡ l.initial.made ++ take l.letter-index l.letters
