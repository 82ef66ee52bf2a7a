use Rattle.ms_parse_steps.proofs.frame.Frame.colon.Goals as goal

pub returns-in-Domain : goal.returns-in-Domain
returns-in-Domain c context file lexed = rw c.in-Domain.is (c.begin_body.ensures context file lexed)
