use Rattle.ms_parse_steps.proofs.close.end_literal.Goals as goal

pub returns-in-Literal : goal.returns-in-Literal
returns-in-Literal c context file lexed below = rw c.in-Literal.is (rw c.in-Literal.is at (c.end_list.ensures context file lexed below))
