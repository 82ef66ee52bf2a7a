use Rattle.ms_parse_steps.proofs.context.Context.close_round.Goals as goal

pub returns-in_ok-domain-in-Parameter : goal.returns-in_ok-domain-in-Parameter
returns-in_ok-domain-in-Parameter c = rw c.in-Parameter.is (rw c.in_ok-domain-in-Parameter.ensures.ok at c.last_parameter.ensures)
