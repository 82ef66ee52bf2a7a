use Rattle.std.proofs.Common.{◌∷◌, ap}
use Rattle.ms_parse_grammar.specs.View.{document_of}
use Rattle.ms_parse_steps.specs.declared.parser.Parser.{Parser}
use Rattle.ms_parse_steps.specs.inner.Followed.{settled}
use Rattle.ms_parse_steps.specs.inner.Frames.{frame_of}
use Rattle.ms_parse_steps.specs.inner.Stack.{stack_of}
use Rattle.ms_parse_steps.specs.inner.Configurations.{context_of}
use Rattle.ms_parse_steps.proofs.Taking.{steps_as}
use Rattle.ms_parse_steps.proofs.input.Input.settle.Goals as goal

pub returns-then-is_operator : goal.returns-then-is_operator
returns-then-is_operator c bytes inside same =
    let file = c.args.self.file in
    let lexed = c.args.self.tokens.now in
    let context = context_of (document_of c.args.parser.now.source) c.args.context in
    let after : Parser = record { source = c.args.parser.now.source; stack = c.settle_operator-taken.new.stack } in
    c.inside.ensures file lexed (settled file lexed context bytes inside c.args.followed (stack_of c.args.parser.now.stack.items)) after
    (c.settle_operator-taken.ensures context bytes inside (c.is_operator.ensures.yes bytes inside same c.if-is_operator.true))

pub returns-in-Some : goal.returns-in-Some
returns-in-Some c bytes inside same =
    let file = c.args.self.file in
    let lexed = c.args.self.tokens.now in
    let context = context_of (document_of c.args.parser.now.source) c.args.context in
    let after : Parser = record { source = c.args.parser.now.source; stack = c.settle_frame.new.stack } in
    steps_as file lexed _ _ after c.inside-in-Some.result (ap (settled file lexed context bytes inside c.args.followed) c.in-Some.ensures.top)
    (c.inside-in-Some.ensures file lexed (settled file lexed context bytes inside c.args.followed (frame_of c.in-Some.frame ∷ stack_of c.pop_frame.new.stack.items)) after
    (c.settle_frame.ensures context file lexed bytes inside (c.is_operator.ensures.no bytes inside same c.if-is_operator.false)))

pub returns-in-None : goal.returns-in-None
returns-in-None c bytes inside same =
    let file = c.args.self.file in
    let lexed = c.args.self.tokens.now in
    let context = context_of (document_of c.args.parser.now.source) c.args.context in
    steps_as file lexed _ _ c.end_expression.new.parser c.end_expression.result (ap (settled file lexed context bytes inside c.args.followed) c.in-None.ensures.top)
    (c.end_expression.ensures bytes inside (c.is_operator.ensures.no bytes inside same c.if-is_operator.false))
