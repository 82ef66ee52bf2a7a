use Rattle.std.proofs.Common.{◌≡◌, ◌++◌, take, string_bytes}
use Rattle.std.specs.List.{flat_map}
use Rattle.ms_parse_print.specs.inner.Printed.{printed_pair, spelled}
use Rattle.ms_parse_print.proofs.expression.push_import.Given as goal

-- the pairs so far
abbrev pub invariant-loop-pair : goal.invariant-loop-pair
invariant-loop-pair l = string_bytes l.text ≡ string_bytes l.initial.text ++ flat_map (printed_pair spelled) (take l.pair-index l.pairs)
