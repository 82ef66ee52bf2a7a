use Rattle.std.proofs.Common.{◌≡◌, drop, length}
use Rattle.std.specs.List.{AllByRecursion}
use Rattle.ms_cert.proofs.words.have_bits.Given as goal

-- all have so many bits where those that are left have
abbrev pub invariant-loop-letter : goal.invariant-loop-letter
invariant-loop-letter l = AllByRecursion (λ letter. length letter ≡ l.count) (drop l.letter-index l.letters) → AllByRecursion (λ letter. length letter ≡ l.count) l.letters
