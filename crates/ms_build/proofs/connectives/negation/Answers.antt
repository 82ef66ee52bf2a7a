use Rattle.ms_product.specs.Signs.{negated}
use Rattle.ms_build.proofs.ChildLemmas.{within_signs}
use Rattle.ms_build.specs.Built.{ChildNo, ChildYes, entries_of, imports_for}
use Rattle.ms_build.proofs.ChangeLemmas.{IsPart-negated}
use Rattle.ms_build.proofs.connectives.negation.Goals as goal

pub returns-in-Ok-negate-clause-negation : goal.returns-in-Ok-negate-clause-negation
returns-in-Ok-negate-clause-negation c orders read =
    let plan = c.args.plan.now in
    let child = c.args.child.now in
    IsPart-negated plan.mode orders child.map (ChildYes (imports_for plan) (entries_of plan) child) (ChildNo (imports_for plan) (entries_of plan) child) c.in-Ok.part c.states.ensures.automaton
    (c.in-Ok.ensures.part orders read) c.in-Ok-negate.made c.in-Ok-negate.ensures.same c.in-Ok-negate.ensures.values

pub returns-in-Ok-negate-clause-within : goal.returns-in-Ok-negate-clause-within
returns-in-Ok-negate-clause-within c = within_signs c.args.plan.now.limit negated c.in-Ok.part c.in-Ok-negate.made c.in-Ok-negate.ensures.same c.in-Ok.ensures.within
