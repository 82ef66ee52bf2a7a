use Rattle.std.proofs.Common.{◌≡◌, ◌++◌, map, take, string_bytes}
use Rattle.std.specs.List.{flat_map}
use Rattle.ms_parse_grammar.specs.View.{declared_of}
use Rattle.ms_parse_print.specs.inner.Printed.{printed_declared, spelled}
use Rattle.ms_parse_print.proofs.declaration.push_items.Given as goal

-- the declarations so far
abbrev pub invariant-loop-item : goal.invariant-loop-item
invariant-loop-item l = string_bytes l.text ≡ string_bytes l.initial.text ++ flat_map (printed_declared spelled) (map declared_of (take l.item-index l.items))
