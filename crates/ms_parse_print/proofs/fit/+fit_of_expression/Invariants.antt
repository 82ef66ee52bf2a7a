use Rattle.std.proofs.Common.{take}
use Rattle.ms_parse_grammar.specs.View.{expressions_of, variables_of, parts_of}
use Rattle.ms_parse_print.specs.inner.Passes.{AllPass, VariablesPass, PartsPass}
use Rattle.ms_parse_print.proofs.Prefixes.{OperandsSoFar}
use Rattle.ms_parse_print.proofs.fit.+fit_of_expression.Given as goal

-- the entries so far pass

abbrev pub invariant-all_pass-loop-e : goal.invariant-all_pass-loop-e
invariant-all_pass-loop-e l = AllPass l.room (expressions_of (take l.e-index l.es))

abbrev pub invariant-operands_pass-loop-e : goal.invariant-operands_pass-loop-e
invariant-operands_pass-loop-e l = OperandsSoFar l.room l.free l.least l.es l.e-index l.open_end

abbrev pub invariant-variables_pass-loop-bound : goal.invariant-variables_pass-loop-bound
invariant-variables_pass-loop-bound l = VariablesPass l.room l.free (variables_of (take l.bound-index l.bounds))

abbrev pub invariant-parts_pass-loop-part : goal.invariant-parts_pass-loop-part
invariant-parts_pass-loop-part l = PartsPass l.room (parts_of (take l.part-index l.parts))
