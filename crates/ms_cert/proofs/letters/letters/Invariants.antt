use Rattle.std.proofs.Common.{length}
use Rattle.ms_cert.proofs.LettersLemmas.{HasRead}
use Rattle.ms_cert.proofs.letters.letters.Given as goal

-- the letters so far, and what is left
abbrev pub invariant-reading : goal.invariant-reading
invariant-reading l = HasRead l.bytes l.letters l.rest

abbrev pub decreases-reading : goal.decreases-reading
decreases-reading l = length l.rest
