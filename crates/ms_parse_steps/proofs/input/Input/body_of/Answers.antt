use Rattle.ms_parse_steps.proofs.input.Input.body_of.Goals as goal

pub returns : goal.returns
returns c = rw c.in-Some.ensures.some.1 (c.begin_expression.ensures c.args.self.file c.args.self.tokens.now)
