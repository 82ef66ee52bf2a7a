use Rattle.std.proofs.Common.{◌≡◌, ap, sym, subst, ◌∙◌}
use Rattle.ms_dfa.specs.Automaton.{IsAutomaton}
use Rattle.ms_dfa.proofs.OrdersLemmas.{orders_of}
use Rattle.ms_logic_words.specs.declared.sign.Sign.{Sign}
use Rattle.ms_logic_words.specs.Content.{Content}
use Rattle.ms_dfa.specs.Values.{HasValues, own_meaning}
use Rattle.ms_product.proofs.ChangeLemmas.{content_is}
use Rattle.ms_rename.specs.Renamed.{renamed, renamed_meaning}
use Rattle.ms_rename.proofs.LeastLemmas.{parts_least, renamed-orders}
use Rattle.ms_rename.proofs.OrderLemmas.{distinct-same, renamed-rising, HasValues-in_order, IsAutomaton-in_order}
use Rattle.ms_rename.proofs.renaming.renamed_in_order.Goals as goal

pub make-requires : goal.make-requires
make-requires c =
    let a = c.args.a.now in
    let names = c.args.map.now in
    let made : Content Sign = record a { variables = renamed names a.variables } in
    let same = content_is c.in_ok-store.store.nodes c.mode.result c.in_ok-tracks.tracks c.start_ref.result c.in_ok-states.states made (c.in_ok-store.ensures.nodes ∙ c.store.ensures)
    c.mode.ensures (c.in_ok-tracks.ensures ∙ ap (renamed names) c.tracks.ensures.variables) c.start_ref.ensures.start c.in_ok-states.ensures in
    subst IsAutomaton (sym same) (IsAutomaton-in_order names a c.tracks.ensures.automaton c.requires.long c.requires.rises)

pub returns-clause-variables : goal.returns-clause-variables
returns-clause-variables c =
    let a = c.args.a.now in
    let names = c.args.map.now in
    ap (λ (content : Content Sign). content.variables) c.make.ensures ∙ c.in_ok-tracks.ensures ∙ ap (renamed names) c.tracks.ensures.variables
    ∙ sym (distinct-same (renamed names a.variables) (renamed-rising names a.variables c.requires.rises))

pub returns-clause-values : goal.returns-clause-values
returns-clause-values c =
    let a = c.args.a.now in
    let names = c.args.map.now in
    let made : Content Sign = record a { variables = renamed names a.variables } in
    let same = content_is c.in_ok-store.store.nodes c.mode.result c.in_ok-tracks.tracks c.start_ref.result c.in_ok-states.states made (c.in_ok-store.ensures.nodes ∙ c.store.ensures)
    c.mode.ensures (c.in_ok-tracks.ensures ∙ ap (renamed names) c.tracks.ensures.variables) c.start_ref.ensures.start c.in_ok-states.ensures in
    subst (HasValues (renamed_meaning names a.variables (own_meaning a))) (sym (c.make.ensures ∙ same))
    (HasValues-in_order names a c.tracks.ensures.automaton c.requires.long c.requires.rises)

pub returns-clause-parts : goal.returns-clause-parts
returns-clause-parts c = record {
  start = ap (λ (content : Content Sign). content.start) c.make.ensures ∙ c.start_ref.ensures.start;
  states = ap (λ (content : Content Sign). content.states) c.make.ensures ∙ c.in_ok-states.ensures;
  nodes = ap (λ (content : Content Sign). content.nodes) c.make.ensures ∙ c.in_ok-store.ensures.nodes ∙ c.store.ensures;
}

pub returns-clause-least : goal.returns-clause-least
returns-clause-least c =
    let a = c.args.a.now in
    let names = c.args.map.now in
    let variables : c.make.result.variables ≡ renamed names a.variables = ap (λ (content : Content Sign). content.variables) c.make.ensures ∙ c.in_ok-tracks.ensures ∙ ap (renamed names) c.tracks.ensures.variables in
    parts_least c.make.result a (returns-clause-parts c) (ap orders_of variables ∙ renamed-orders names a.variables c.requires.long)
