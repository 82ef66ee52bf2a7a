use Rattle.ms_parse_steps.proofs.parser.Parser.behind_global.Goals as goal

pub returns-in-Where : goal.returns-in-Where
returns-in-Where c file lexed bytes = rw c.in-Where.is (c.begin_expression.ensures file lexed)

pub returns-in-Comma : goal.returns-in-Comma
returns-in-Comma c file lexed bytes = rw c.in-Comma.is (c.another_global.ensures file lexed c.args.self.now)

pub returns-in-Semicolon : goal.returns-in-Semicolon
returns-in-Semicolon c file lexed bytes = rw c.in-Semicolon.is (c.last_global.ensures file lexed)
