use Rattle.ms_parse_steps.proofs.context.Context.end_expression.Goals as goal

pub returns-in-Semicolon : goal.returns-in-Semicolon
returns-in-Semicolon c bytes inside is = rw c.in-Semicolon.is (c.semicolon.ensures c.args.input.file c.args.input.tokens.now)

pub returns-in-Comma : goal.returns-in-Comma
returns-in-Comma c bytes inside is = rw c.in-Comma.is (c.comma.ensures c.args.input.file c.args.input.tokens.now c.args.parser.now)

pub returns-in-CloseRound : goal.returns-in-CloseRound
returns-in-CloseRound c bytes inside is = rw c.in-CloseRound.is c.close_round.ensures
