use Rattle.ms_product.specs.Signs.{restricted}
use Rattle.ms_build.proofs.ChildLemmas.{within_signs}
use Rattle.ms_dag.specs.Values.{read_through}
use Rattle.ms_build.specs.Built.{ChildNo, ChildYes, entries_of, imports_for}
use Rattle.ms_build.proofs.ChangeLemmas.{IsPart-restricted}
use Rattle.ms_build.proofs.NodeLemmas.{node_never_both}
use Rattle.ms_build.proofs.connectives.restriction.Goals as goal

pub returns-in-Ok-restrict_to-clause-restriction : goal.returns-in-Ok-restrict_to-clause-restriction
returns-in-Ok-restrict_to-clause-restriction c orders read =
    let plan = c.args.plan.now in
    let child = c.args.child.now in
    IsPart-restricted plan.mode orders child.map (ChildYes (imports_for plan) (entries_of plan) child) (ChildNo (imports_for plan) (entries_of plan) child) c.in-Ok.part c.states.ensures.automaton
    (c.in-Ok.ensures.part orders read) c.in-Ok-restrict_to.made c.in-Ok-restrict_to.ensures.same c.in-Ok-restrict_to.ensures.values
    (λ e holds fails. node_never_both (imports_for plan) (entries_of plan) child.node (read_through child.map e) holds fails)

pub returns-in-Ok-restrict_to-clause-within : goal.returns-in-Ok-restrict_to-clause-within
returns-in-Ok-restrict_to-clause-within c = within_signs c.args.plan.now.limit restricted c.in-Ok.part c.in-Ok-restrict_to.made c.in-Ok-restrict_to.ensures.same c.in-Ok.ensures.within
