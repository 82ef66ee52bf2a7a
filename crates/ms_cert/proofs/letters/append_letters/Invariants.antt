use Rattle.std.proofs.Common.{◌≡◌, ◌++◌, string_bytes, take}
use Rattle.ms_cert.specs.Text.{letters_text}
use Rattle.ms_cert.proofs.letters.append_letters.Given as goal

-- the letters so far
abbrev pub invariant-loop-letter : goal.invariant-loop-letter
invariant-loop-letter l = string_bytes l.out ≡ string_bytes l.initial.out ++ letters_text (take l.letter-index l.letters)
