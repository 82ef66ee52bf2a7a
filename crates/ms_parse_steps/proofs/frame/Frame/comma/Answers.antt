use Rattle.ms_parse_steps.proofs.frame.Frame.comma.Goals as goal

pub returns-in-Listed : goal.returns-in-Listed
returns-in-Listed c context file lexed = rw c.in-Listed.is (c.another_expression.ensures context file lexed)

pub returns-in-Domain : goal.returns-in-Domain
returns-in-Domain c context file lexed = rw c.in-Domain.is (c.another_variable.ensures context file lexed c.args.stack.now.items)

pub returns-in-Part : goal.returns-in-Part
returns-in-Part c context file lexed = rw c.in-Part.is (c.another_part.ensures context file lexed c.args.stack.now.items)
