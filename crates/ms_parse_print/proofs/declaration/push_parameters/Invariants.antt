use Rattle.std.proofs.Common.{◌≡◌, ◌++◌, take, string_bytes}
use Rattle.ms_parse_grammar.specs.View.{variables_of}
use Rattle.ms_parse_print.specs.inner.Printed.{printed_parameters, spelled}
use Rattle.ms_parse_print.proofs.declaration.push_parameters.Given as goal

-- the parameters so far
abbrev pub invariant-loop-i : goal.invariant-loop-i
invariant-loop-i l = string_bytes l.text ≡ string_bytes l.initial.text ++ printed_parameters spelled (variables_of (take l.i l.bounds))
