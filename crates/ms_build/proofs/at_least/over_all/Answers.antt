use Rattle.ms_build.proofs.AtLeastLemmas.{looked_for}
use Rattle.ms_build.proofs.at_least.over_all.Goals as goal

pub returns-in-Ok-clause-quantified : goal.returns-in-Ok-clause-quantified
returns-in-Ok-clause-quantified c =
    looked_for c.args.plan.now c.args.body.now c.args.orders.now c.args.quantifier c.in-Some.n c.requires.bound c.in-Some.ensures c.in-Ok.made c.in-Ok.ensures.at_least
