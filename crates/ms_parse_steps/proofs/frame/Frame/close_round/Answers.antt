use Rattle.ms_parse_steps.proofs.frame.Frame.close_round.Goals as goal

pub returns-in-Bracket : goal.returns-in-Bracket
returns-in-Bracket c context file lexed below = rw c.in-Bracket.is (c.end_bracket.ensures context file lexed below)

pub returns-in-Listed : goal.returns-in-Listed
returns-in-Listed c context file lexed below = rw c.in-Listed.is (c.end_call.ensures context file lexed below)
