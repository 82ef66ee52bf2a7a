use Rattle.std.proofs.Common.{◌-◌, ap, sym}
use Rattle.ms_parse_grammar.specs.Grammar.{greatest_depth}
use Rattle.ms_parse_steps.specs.inner.Machine.{body_frame, enter, too_deep}
use Rattle.ms_parse_steps.specs.inner.Stack.{stack_of}
use Rattle.ms_parse_steps.specs.inner.Terminals.{behind}
use Rattle.ms_parse_steps.proofs.Taking.{acts_as}
use Rattle.ms_parse_steps.proofs.names.behind_variable.Goals as goal

pub returns-in-Where : goal.returns-in-Where
returns-in-Where c context file lexed bytes = rw c.in-Where.is (c.begin_frame.ensures context file lexed)

pub returns-in_ok-binder-in-Colon : goal.returns-in_ok-binder-in-Colon
returns-in_ok-binder-in-Colon c context file lexed bytes =
    let begun = c.begin_frame-in-Colon.ensures context file lexed in
    let st = stack_of c.args.stack.now.items in
    let from = behind file lexed (c.args.i - 1) in
    rw c.in-Colon.is (acts_as context file lexed _ _ c.begin_frame-in-Colon.new.stack.items c.begin_frame-in-Colon.result
    (ap (λ b. enter greatest_depth context (body_frame b.0 b.1 b.2 b.3) st (too_deep from) (behind file lexed c.args.i)) (sym c.in_ok-binder-in-Colon.ensures.ok)) begun)
