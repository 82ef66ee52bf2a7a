use Rattle.ms_parse_steps.proofs.input.Input.behind_parameter.Goals as goal

pub returns-in-Where : goal.returns-in-Where
returns-in-Where c bytes = rw c.in-Where.is (c.begin_expression.ensures c.args.self.file c.args.self.tokens.now)

pub returns-in-Comma : goal.returns-in-Comma
returns-in-Comma c bytes = rw c.in-Comma.is (c.another_parameter.ensures c.args.self.file c.args.self.tokens.now c.args.parser.now)
