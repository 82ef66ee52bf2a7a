use Rattle.std.proofs.Common.{ap, sym, subst, ◌∙◌}
use Rattle.ms_dfa.specs.Automaton.{IsAutomaton, variables_of}
use Rattle.ms_dfa.specs.Values.{HasValues, own_meaning}
use Rattle.ms_product.specs.Combined.{changed, with_signs}
use Rattle.ms_product.specs.Signs.{change_by}
use Rattle.ms_product.proofs.ChangeLemmas.{KeepsOutside-change, HasValues-changed, IsAutomaton-changed, content_is}
use Rattle.ms_product.proofs.change.with_signs.Goals as goal

pub make-requires : goal.make-requires
make-requires c =
    let change = change_by c.args.change in
    subst IsAutomaton
    (sym (content_is c.in_ok-store.store.nodes c.mode.result c.in_ok-tracks.tracks c.start_ref.result c.in_ok-states.states (with_signs change c.args.a.now)
    (c.in_ok-store.ensures.nodes ∙ c.store.ensures) c.mode.ensures (ap variables_of c.in_ok-tracks.ensures ∙ c.tracks.ensures.variables)
    c.start_ref.ensures.start c.in_ok-states.ensures))
    (IsAutomaton-changed change c.args.a.now c.tracks.ensures.automaton (KeepsOutside-change c.args.change))

pub returns-clause-values : goal.returns-clause-values
returns-clause-values c =
    let change = change_by c.args.change in
    subst (HasValues (changed change (own_meaning c.args.a.now)))
    (sym (c.make.ensures ∙ content_is c.in_ok-store.store.nodes c.mode.result c.in_ok-tracks.tracks c.start_ref.result c.in_ok-states.states (with_signs change c.args.a.now)
    (c.in_ok-store.ensures.nodes ∙ c.store.ensures) c.mode.ensures (ap variables_of c.in_ok-tracks.ensures ∙ c.tracks.ensures.variables)
    c.start_ref.ensures.start c.in_ok-states.ensures))
    (HasValues-changed change c.args.a.now c.tracks.ensures.automaton (KeepsOutside-change c.args.change))
