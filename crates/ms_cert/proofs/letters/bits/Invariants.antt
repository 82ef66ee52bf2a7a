use Rattle.std.proofs.Common.{◌≡◌, ◌++◌, length}
use Rattle.ms_cert.specs.Text.{bits_text}
use Rattle.ms_cert.proofs.letters.bits.Given as goal

-- the bits so far, and what is left
abbrev pub invariant-reading : goal.invariant-reading
invariant-reading l = l.bytes ≡ bits_text l.bits ++ l.rest

abbrev pub decreases-reading : goal.decreases-reading
decreases-reading l = length l.rest
