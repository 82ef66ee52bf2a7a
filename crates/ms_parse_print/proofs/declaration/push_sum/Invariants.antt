use Rattle.std.proofs.Common.{◌≡◌, ◌++◌, take, string_bytes}
use Rattle.std.specs.List.{flat_map}
use Rattle.ms_parse_print.specs.inner.Printed.{printed_shift, spelled}
use Rattle.ms_parse_print.proofs.declaration.push_sum.Given as goal

-- the further numbers so far
abbrev pub invariant-loop-n : goal.invariant-loop-n
invariant-loop-n l = string_bytes l.text ≡ string_bytes l.initial.text ++ flat_map (printed_shift spelled) (take l.n-index l.further)
