use Rattle.ms_parse_steps.proofs.separate.begin_scope.Goals as goal

pub returns : goal.returns
returns c context file lexed = rw c.in_ok-parts.ensures.ok at (c.begin_frame.ensures context file lexed)
