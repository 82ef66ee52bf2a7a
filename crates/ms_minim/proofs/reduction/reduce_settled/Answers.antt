use Rattle.std.proofs.Common.{◌≤◌, [], length, sym, subst}
use Rattle.ms_diagram.specs.Store.{Contents}
use Rattle.ms_minim.specs.inner.Lead.{AreNumbered}
use Rattle.ms_minim.specs.inner.Quotient.{Quotienting}
use Rattle.ms_minim.specs.Reduced.{IsReducedOf, content_over}
use Rattle.ms_minim.proofs.FewestLemmas.{IsReducedOf-made}
use Rattle.ms_minim.proofs.reduction.reduce_settled.Goals as goal

pub own_states-requires-clause-tables : goal.own_states-requires-clause-tables
own_states-requires-clause-tables c =
    subst (λ (q : Quotienting). AreNumbered q.content q.places q.classes q.pairs [] c.args.machine.tables) (sym c.quotient.view_is) (c.requires.ready [])

pub own_start-start-requires-clause-tables : goal.own_start-start-requires-clause-tables
own_start-start-requires-clause-tables c =
    subst (λ (q : Quotienting). AreNumbered q.content q.places q.classes q.pairs [] c.args.machine.tables) (sym c.quotient.view_is) (c.requires.ready [])

pub returns-clause-reduced : goal.returns-clause-reduced
returns-clause-reduced c =
    let a = c.quotient.inside.source.automaton.now in
    let source = c.quotient.inside.source in
    let pairs = c.quotient.inside.pairs in
    let store = c.args.machine.tables.images.store in
    let few = subst (λ (q : Quotienting). length store.nodes ≤ length q.content.nodes) (sym c.quotient.view_is) c.requires.few in
    subst (λ (q : Quotienting). IsReducedOf q.content (content_over q.content c.into_store.result.nodes c.own_start-start.result c.in_ok-states.states)) c.quotient.view_is
    (subst (λ (s : Contents). IsReducedOf a (content_over a s.nodes c.own_start-start.result c.in_ok-states.states)) (sym c.into_store.ensures)
    (IsReducedOf-made a source.partition.classes source.partition.members source.places pairs c.quotient.invariant store.nodes c.own_start-start.result c.in_ok-states.states c.len.ensures.store.ordered
    c.len.ensures.store.reduced c.own_start-start.ensures c.in_ok-states.ensures.all c.in_ok-states.ensures.follows few))
