use Rattle.ms_parse_steps.proofs.join.join_further.Goals as goal

pub returns : goal.returns
returns c context file lexed = rw c.in_ok-operands.ensures.ok at (c.begin_frame.ensures context file lexed)
