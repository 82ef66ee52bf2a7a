use Rattle.ms_parse_steps.proofs.close.end_call.Goals as goal

pub returns-in-Call : goal.returns-in-Call
returns-in-Call c context file lexed below = rw c.in-Call.is (rw c.in-Call.is at (c.end_list.ensures context file lexed below))
