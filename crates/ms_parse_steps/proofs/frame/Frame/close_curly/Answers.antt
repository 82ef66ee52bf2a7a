use Rattle.ms_parse_steps.proofs.frame.Frame.close_curly.Goals as goal

pub returns-in-Listed : goal.returns-in-Listed
returns-in-Listed c context file lexed below = rw c.in-Listed.is (c.end_literal.ensures context file lexed below)
