use Rattle.std.proofs.Common.{ap, sym, ◌-◌}
use Rattle.ms_parse_steps.specs.inner.Machine.{body_frame, enter, too_deep}
use Rattle.ms_parse_steps.specs.inner.Terminals.{behind}
use Rattle.ms_parse_steps.specs.inner.Stack.{stack_of}
use Rattle.ms_parse_steps.proofs.separate.begin_body.Goals as goal
use Rattle.ms_parse_grammar.specs.Grammar.{greatest_depth}

pub returns : goal.returns
returns c context file lexed =
    let st = stack_of c.args.stack.now.items in
    let ts = behind file lexed c.args.i in
    rw (ap (λ b. enter greatest_depth context (body_frame b.0 b.1 b.2 b.3) st (too_deep (behind file lexed (c.args.i - 1))) ts) (sym c.in_ok-binder.ensures.ok)) (c.begin_frame.ensures context file lexed)
