use Rattle.std.proofs.Common.{◌≡◌, vec_len}
use Rattle.ms_parse_steps.specs.inner.Machine.{collapse}
use Rattle.ms_parse_steps.specs.inner.Stack.{stack_of}
use Rattle.ms_parse_grammar.specs.View.{expression_of}
use Rattle.ms_parse_steps.proofs.stack.collapse.Given as goal
use Rattle.ms_parse_grammar.specs.Grammar.{greatest_depth}

-- what is left to complete gives what the whole gives
abbrev pub invariant-loop-frame : goal.invariant-loop-frame
invariant-loop-frame l =
    collapse greatest_depth l.bound (expression_of l.initial.held.expr) (stack_of l.initial.stack.items) ≡ collapse greatest_depth l.bound (expression_of l.held.expr) (stack_of l.stack.items)

abbrev pub decreases-loop-frame : goal.decreases-loop-frame
decreases-loop-frame l = vec_len l.stack
