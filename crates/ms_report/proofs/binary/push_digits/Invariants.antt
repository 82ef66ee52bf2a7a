use Rattle.std.proofs.Common.{◌≡◌, ◌++◌, ◌<◌, length, string_bytes}
use Rattle.ms_report.proofs.Digits.{from_member, spelled}
use Rattle.ms_report.proofs.binary.push_digits.Given as goal

-- the digits down to a member
abbrev pub invariant-loop-i : goal.invariant-loop-i
invariant-loop-i l = (l.i < length l.set) × (string_bytes l.text ≡ string_bytes l.fn.text ++ spelled (from_member l.set l.i))
