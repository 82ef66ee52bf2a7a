use Rattle.std.proofs.Common.{take}
use Rattle.ms_parse_grammar.specs.Grammar.{AreOfOrder}
use Rattle.ms_parse_grammar.specs.View.{variables_of}
use Rattle.ms_parse_print.proofs.fit.are_of_order.Given as goal

-- the variables so far have the order
abbrev pub invariant-loop-bound : goal.invariant-loop-bound
invariant-loop-bound l = AreOfOrder l.order (variables_of (take l.bound-index l.bounds))
