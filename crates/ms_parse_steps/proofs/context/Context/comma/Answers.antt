use Rattle.ms_parse_steps.proofs.context.Context.comma.Goals as goal

pub returns-in-Global : goal.returns-in-Global
returns-in-Global c file lexed parser = rw c.in-Global.is (rw c.in_ok-domain.ensures.ok at (c.another_global.ensures file lexed parser))

pub returns-in-Parameter : goal.returns-in-Parameter
returns-in-Parameter c file lexed parser = rw c.in-Parameter.is (rw c.in_ok-domain.ensures.ok at (c.another_parameter.ensures file lexed parser))
