use Rattle.std.proofs.Common.{IfOk, sym, subst}
use Rattle.ms_dag.specs.declared.node.Child.{Child}
use Rattle.std.specs.Prelude.{Option, length, [], ◌∷◌, ◌++◌}
use Rattle.ms_dfa.specs.Automaton.{variable_of}
use Rattle.ms_dfa_explore.specs.Explored.{OnRefused}
use Rattle.ms_build.specs.Built.{IsDomainRead, IsQuantifiedOf}
use Rattle.ms_build.specs.Short.{QuantifierLacks}
use Rattle.ms_build.proofs.nodes.quantified.Goals as goal

pub returns-in-None-clause-quantified : goal.returns-in-None-clause-quantified
returns-in-None-clause-quantified c =
    let plan = c.args.plan.now in
    subst (λ (d : Option Child). IfOk c.over_all.result (IsQuantifiedOf plan c.args.orders.now c.args.binder.quantifier d c.args.binder.body.now)) (sym c.in-None.is) c.over_all.ensures.quantified

pub returns-in-Some-clause-quantified : goal.returns-in-Some-clause-quantified
returns-in-Some-clause-quantified c =
    let plan = c.args.plan.now in
    subst (λ (d : Option Child). IfOk c.within.result (IsQuantifiedOf plan c.args.orders.now c.args.binder.quantifier d c.args.binder.body.now)) (sym c.in-Some.is) c.within.ensures.quantified

pub returns-in-None-clause-nodes : goal.returns-in-None-clause-nodes
returns-in-None-clause-nodes c =
    let plan = c.args.plan.now in
    let binder = c.args.binder in
    subst (λ (d : Option Child). OnRefused c.over_all.result (λ refused. QuantifierLacks plan c.args.orders.now (variable_of binder.quantifier.track) d binder.body.now)) (sym c.in-None.is) c.over_all.ensures.nodes

pub returns-in-Some-clause-nodes : goal.returns-in-Some-clause-nodes
returns-in-Some-clause-nodes c =
    let plan = c.args.plan.now in
    let binder = c.args.binder in
    subst (λ (d : Option Child). OnRefused c.within.result (λ refused. QuantifierLacks plan c.args.orders.now (variable_of binder.quantifier.track) d binder.body.now)) (sym c.in-Some.is) c.within.ensures.nodes

pub within-requires-clause-domain_rises : goal.within-requires-clause-domain_rises
within-requires-clause-domain_rises c =
    let binder = c.args.binder in
    (subst (IsDomainRead c.args.plan.now (c.args.orders.now ++ binder.quantifier.track.order ∷ []) (length c.args.built.now)) c.in-Some.is c.requires.binder.domain).2
