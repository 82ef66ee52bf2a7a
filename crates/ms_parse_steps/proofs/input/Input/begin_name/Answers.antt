use Rattle.ms_parse_steps.proofs.input.Input.begin_name.Goals as goal

pub returns : goal.returns
returns c context = rw c.in-Some.ensures.some.1 (c.begin_list.ensures context)
