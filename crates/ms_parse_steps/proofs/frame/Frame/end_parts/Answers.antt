use Rattle.ms_parse_steps.proofs.frame.Frame.end_parts.Goals as goal

pub returns-in-Part : goal.returns-in-Part
returns-in-Part c context file lexed = rw c.in-Part.is (c.begin_scope.ensures context file lexed)
