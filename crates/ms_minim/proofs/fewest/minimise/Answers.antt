use Rattle.std.proofs.Common.{◌≡◌, ◌≤◌, length, sym, ap, subst, ◌∙◌, ◌+◌, arith}
use Rattle.ms_dfa.specs.Automaton.{IsAutomaton, content_of, variables_of}
use Rattle.ms_logic_words.specs.declared.sign.Sign.{Sign}
use Rattle.ms_logic_words.specs.Content.{Content}
use Rattle.ms_minim.specs.Reduced.{IsReducedOf, content_over}
use Rattle.ms_logic_words.specs.Residual.{AreReached, HaveDifferentResiduals, HaveEqualSigns, HasFewestStates}
use Rattle.ms_dfa_explore.proofs.RunLemmas.{length-states_of}
use Rattle.ms_minim.proofs.FewestLemmas.{IsAutomaton-reduced, content_is}
use Rattle.ms_minim.proofs.ReadingLemmas.{read-own}
use Rattle.ms_minim.proofs.fewest.minimise.Goals as goal
use Rattle.ms_minim.proofs.fewest.minimise.Goals.{After-mode, In-Ok-reduce}

-- the automaton that was made of the reduced parts, by its content
reduced : (c : In-Ok-reduce) → IsReducedOf c.args.a.now (content_over c.args.a.now c.in-Ok-reduce.made.store.nodes c.in-Ok-reduce.made.start c.in-Ok-reduce.made.states)
reduced c =
    let made = c.in-Ok-reduce.made in
    subst (λ content. IsReducedOf content (content_over c.args.a.now made.store.nodes made.start made.states)) (read-own c.args.a.now) c.in-Ok-reduce.ensures.reduced

content : (c : After-mode) → content_of c.in-Ok-reduce.made.store.nodes c.mode.result c.in-Ok.tracks c.in-Ok-reduce.made.start c.in-Ok-reduce.made.states ≡ content_over c.args.a.now c.in-Ok-reduce.made.store.nodes c.in-Ok-reduce.made.start c.in-Ok-reduce.made.states
content c =
    let made = c.in-Ok-reduce.made in
    content_is made.store.nodes c.mode.result c.in-Ok.tracks made.start made.states c.args.a.now c.mode.ensures (ap variables_of c.in-Ok.ensures ∙ c.tracks.ensures.variables)

pub make-requires : goal.make-requires
make-requires c =
    let made = c.in-Ok-reduce.made in
    subst IsAutomaton (sym (content c)) (IsAutomaton-reduced c.args.a.now c.tracks.ensures.automaton made.store.nodes made.start made.states (reduced c.before))

pub returns-clause-signs : goal.returns-clause-signs
returns-clause-signs c = subst (HaveEqualSigns c.args.a.now) (sym (c.make.ensures ∙ content c.before)) (reduced c.before.before).signs

pub returns-clause-fewest : goal.returns-clause-fewest
returns-clause-fewest c = subst HasFewestStates (sym (c.make.ensures ∙ content c.before)) (reduced c.before.before).fewest

pub returns-clause-no_more_nodes : goal.returns-clause-no_more_nodes
returns-clause-no_more_nodes c = subst (λ (there : Content Sign). length there.nodes ≤ length c.args.a.now.nodes) (sym c.make.ensures) (reduced c.before.before).no_more_nodes

pub returns-clause-reached : goal.returns-clause-reached
returns-clause-reached c = subst AreReached (sym (c.make.ensures ∙ content c.before)) (reduced c.before.before).reached

pub returns-clause-differ : goal.returns-clause-differ
returns-clause-differ c = subst HaveDifferentResiduals (sym (c.make.ensures ∙ content c.before)) (reduced c.before.before).differ

pub returns-clause-within : goal.returns-clause-within
returns-clause-within c =
    let counted = length-states_of c.in-Ok-reduce.made.states in
    let few = c.in-Ok-reduce.ensures.few in
    subst (λ (content : Content Sign). length content.nodes + length content.states ≤ c.args.limit) (sym c.make.ensures) (omega (arith, counted, few))
