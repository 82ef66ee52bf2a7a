use Rattle.std.proofs.Common.{◌≡◌, ◌++◌, string_bytes, take}
use Rattle.ms_cert.specs.Text.{bits_text}
use Rattle.ms_cert.proofs.letters.append_bits.Given as goal

-- the bits so far
abbrev pub invariant-loop-bit : goal.invariant-loop-bit
invariant-loop-bit l = string_bytes l.out ≡ string_bytes l.initial.out ++ bits_text (take l.bit-index l.bits)
