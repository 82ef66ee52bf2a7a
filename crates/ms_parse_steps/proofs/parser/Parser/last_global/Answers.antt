use Rattle.ms_parse_steps.proofs.parser.Parser.last_global.Goals as goal

pub returns : goal.returns
returns c file lexed = rw c.in_ok-push_variable.ensures.ok at (c.declared.ensures file lexed)
