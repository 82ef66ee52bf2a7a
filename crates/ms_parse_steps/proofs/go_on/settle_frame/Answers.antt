use Rattle.std.proofs.Common.{◌∷◌, ◌-◌}
use Rattle.ms_parse_grammar.specs.Grammar.{greatest_depth}
use Rattle.ms_parse_grammar.specs.View.{expression_of}
use Rattle.ms_parse_steps.specs.inner.Frames.{frame_of}
use Rattle.ms_parse_steps.specs.inner.Terminals.{behind}
use Rattle.ms_parse_steps.specs.inner.Stack.{stack_of}
use Rattle.ms_parse_steps.proofs.Ending.{in_settled}
use Rattle.ms_parse_steps.proofs.go_on.settle_frame.Goals as goal

pub returns-in-CloseRound : goal.returns-in-CloseRound
returns-in-CloseRound c context file lexed bytes inside is = rw c.in-CloseRound.is (c.close_round.ensures context file lexed c.args.stack.now.items)

pub returns-in-CloseCurly : goal.returns-in-CloseCurly
returns-in-CloseCurly c context file lexed bytes inside is = rw c.in-CloseCurly.is (c.close_curly.ensures context file lexed c.args.stack.now.items)

pub returns-in-Comma : goal.returns-in-Comma
returns-in-Comma c context file lexed bytes inside is = rw c.in-Comma.is (c.comma.ensures context file lexed)

pub returns-in-Colon : goal.returns-in-Colon
returns-in-Colon c context file lexed bytes inside is = rw c.in-Colon.is (c.colon.ensures context file lexed)

pub returns-in-Infix : goal.returns-in-Infix
returns-in-Infix c context file lexed bytes inside is =
    let top = frame_of c.args.frame in
    let st = top ∷ stack_of c.args.stack.now.items in
    let e = expression_of c.args.followed.operand.expr in
    let ts = behind file lexed c.args.followed.next in
    rw (in_settled greatest_depth context c.args.followed.terminal c.in-Infix.field-0 bytes inside e st (behind file lexed (c.args.followed.next - 1)) ts c.in-Infix.is is) (c.end_parts.ensures context file lexed)
