use Rattle.std.proofs.Common.{◌≡◌, ◌++◌, take, string_bytes}
use Rattle.ms_parse_grammar.specs.Symbol.{mark_symbol}
use Rattle.ms_parse_grammar.specs.View.{expressions_of, parts_of, variables_of}
use Rattle.ms_parse_print.specs.inner.Printed.{printed_all, printed_parts, printed_variables, spelled}
use Rattle.ms_parse_print.proofs.expression.+print_expression.Given as goal

-- the entries so far

abbrev pub invariant-push_all-loop-i : goal.invariant-push_all-loop-i
invariant-push_all-loop-i l = string_bytes l.text ≡ string_bytes l.initial.text ++ printed_all spelled (mark_symbol l.separator) (expressions_of (take l.i l.es))

abbrev pub invariant-push_bounds-loop-i : goal.invariant-push_bounds-loop-i
invariant-push_bounds-loop-i l = string_bytes l.text ≡ string_bytes l.initial.text ++ printed_variables spelled (variables_of (take l.i l.bounds))

abbrev pub invariant-push_parts-loop-i : goal.invariant-push_parts-loop-i
invariant-push_parts-loop-i l = string_bytes l.text ≡ string_bytes l.initial.text ++ printed_parts spelled (parts_of (take l.i l.parts))
