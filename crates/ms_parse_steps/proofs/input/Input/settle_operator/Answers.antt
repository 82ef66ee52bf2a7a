use Rattle.std.proofs.Common.{◌-◌}
use Rattle.ms_parse_grammar.specs.View.{expression_of}
use Rattle.ms_parse_steps.specs.inner.Terminals.{behind}
use Rattle.ms_parse_steps.specs.inner.Stack.{stack_of}
use Rattle.ms_parse_steps.proofs.Ending.{infix_settled}
use Rattle.ms_parse_steps.proofs.input.Input.settle_operator.Goals as goal
use Rattle.ms_parse_grammar.specs.Grammar.{greatest_depth}

pub returns-in-Infix : goal.returns-in-Infix
returns-in-Infix c context bytes inside is =
    let file = c.args.self.file in
    let lexed = c.args.self.tokens.now in
    let st = stack_of c.args.stack.now.items in
    let e = expression_of c.args.followed.operand.expr in
    let ts = behind file lexed c.args.followed.next in
    rw (infix_settled greatest_depth context c.args.followed.terminal c.in-Infix.op bytes inside e st (behind file lexed (c.args.followed.next - 1)) ts c.in-Infix.is is) (c.shift.ensures context file lexed)

pub returns-in-Joining : goal.returns-in-Joining
returns-in-Joining c context bytes inside is = rw c.in-Joining.is (c.join.ensures context c.args.self.file c.args.self.tokens.now)

pub returns-in-Shift : goal.returns-in-Shift
returns-in-Shift c context bytes inside is = rw c.in-Shift.is (rw c.deref.ensures.value at (c.shift_int.ensures context))
