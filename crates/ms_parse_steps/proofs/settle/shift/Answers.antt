use Rattle.std.proofs.Common.{◌≤◌, ◌-◌, leb, arith}
use Rattle.std.proofs.lemmas.Bool.{le-leb}
use Rattle.ms_parse_grammar.specs.Grammar.{left_level, level, greatest_depth}
use Rattle.ms_parse_grammar.specs.View.{expression_of}
use Rattle.ms_parse_steps.specs.inner.Machine.{left_frame, enter, misplaced, too_deep}
use Rattle.ms_parse_steps.specs.inner.Stack.{stack_of}
use Rattle.ms_parse_steps.specs.inner.Terminals.{behind}
use Rattle.ms_parse_steps.proofs.Frames.{chosen_yes}
use Rattle.ms_parse_steps.proofs.settle.shift.Goals as goal

pub returns : goal.returns
returns c context file lexed =
    let e = expression_of c.args.left.expr in
    let from = behind file lexed (c.args.i - 1) in
    let high : left_level c.args.op ≤ level e = omega (arith, c.level.ensures, c.least_left.ensures) in
    rw (chosen_yes (leb (left_level c.args.op) (level e)) (enter greatest_depth context (left_frame c.args.op e) (stack_of c.args.stack.now.items) (too_deep from) (behind file lexed c.args.i)) (misplaced from) (le-leb (left_level c.args.op) (level e) high))
    (c.begin_frame.ensures context file lexed)
