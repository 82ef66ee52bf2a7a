use Rattle.std.proofs.Common.{◌≡◌, ℕ, ◌+◌, ◌≤◌, length, subst, sym, arith}
use Rattle.ms_dfa.specs.Automaton.{states_of, variable_of, variables_of}
use Rattle.ms_logic_words.specs.Content.{Content}
use Rattle.ms_logic_words.specs.declared.sign.Sign.{Sign}
use Rattle.ms_dfa_explore.proofs.RunLemmas.{length-states_of}
use Rattle.ms_project.specs.Projection.{AreSignedSets, SetsOfAnswerAreAtLeast}
use Rattle.ms_project.specs.Subsetting.{with_sets}
use Rattle.ms_project.proofs.AssemblyLemmas.{members_marked, states_test_below, zeros_within, automaton_made, values_made}
use Rattle.ms_project.proofs.quantify.project_within.Goals as goal

pub sign_sets-requires-clause-members : goal.sign_sets-requires-clause-members
sign_sets-requires-clause-members c =
    let p = c.in-Ok.projection in
    members_marked c.args.body.now c.args.domain.now c.tracks.ensures.automaton c.tracks-2.ensures.automaton c.requires.domain (variable_of c.args.quantifier.track) c.requires.bound
    p.marks (with_sets c.in-Ok.ensures.projection.begun_with p.found.sets) p.found.store p.found.start p.found.states c.in-Ok.ensures.projection.is p.tracks c.in-Ok.ensures.tracks

pub sign_sets-requires-clause-tested : goal.sign_sets-requires-clause-tested
sign_sets-requires-clause-tested c =
    let p = c.in-Ok.projection in
    states_test_below c.args.body.now c.args.domain.now c.tracks.ensures.automaton c.tracks-2.ensures.automaton c.requires.domain (variable_of c.args.quantifier.track) c.requires.bound
    p.marks (with_sets c.in-Ok.ensures.projection.begun_with p.found.sets) p.found.store p.found.start p.found.states c.in-Ok.ensures.projection.is p.tracks c.in-Ok.ensures.tracks

pub sign_sets-requires-clause-within : goal.sign_sets-requires-clause-within
sign_sets-requires-clause-within c =
    let p = c.in-Ok.projection in
    zeros_within c.args.body.now c.args.domain.now c.tracks.ensures.automaton c.tracks-2.ensures.automaton c.requires.domain (variable_of c.args.quantifier.track) c.requires.bound
    p.marks (with_sets c.in-Ok.ensures.projection.begun_with p.found.sets) p.found.store p.found.start p.found.states c.in-Ok.ensures.projection.is p.tracks c.in-Ok.ensures.tracks

pub make-requires : goal.make-requires
make-requires c =
    let p = c.in-Ok.projection in
    automaton_made c.args.body.now c.args.domain.now c.tracks.ensures.automaton c.tracks-2.ensures.automaton c.requires.domain (variable_of c.args.quantifier.track) c.requires.bound
    p.marks (with_sets c.in-Ok.ensures.projection.begun_with p.found.sets) p.found.store p.found.start p.found.states c.in-Ok.ensures.projection.is p.tracks c.in-Ok.ensures.tracks
    c.args.quantifier.quant c.in-Ok-sign_sets.states
    (subst (λ mode. AreSignedSets mode c.args.quantifier.quant (variables_of p.tracks) p.marks p.found.sets p.found.store.nodes p.found.states c.in-Ok-sign_sets.states) c.mode.ensures c.in-Ok-sign_sets.ensures)
    c.mode-2.result c.mode-2.ensures

pub returns-clause-values : goal.returns-clause-values
returns-clause-values c =
    let p = c.in-Ok.projection in
    values_made c.args.body.now c.args.domain.now c.tracks.ensures.automaton c.tracks-2.ensures.automaton c.requires.domain (variable_of c.args.quantifier.track) c.requires.bound
    p.marks (with_sets c.in-Ok.ensures.projection.begun_with p.found.sets) p.found.store p.found.start p.found.states c.in-Ok.ensures.projection.is p.tracks c.in-Ok.ensures.tracks
    c.args.quantifier.quant c.in-Ok-sign_sets.states
    (subst (λ mode. AreSignedSets mode c.args.quantifier.quant (variables_of p.tracks) p.marks p.found.sets p.found.store.nodes p.found.states c.in-Ok-sign_sets.states) c.mode.ensures c.in-Ok-sign_sets.ensures)
    c.mode-2.result c.mode-2.ensures c.make.result c.make.ensures

pub returns-clause-within : goal.returns-clause-within
returns-clause-within c =
    let counted = length-states_of c.in-Ok-sign_sets.states in
    let long = c.in-Ok-sign_sets.ensures.signs.long in
    let within = c.in-Ok.ensures.within in
    subst (λ (content : Content Sign). length content.nodes + length content.states ≤ c.args.limit) (sym c.make.ensures) (omega (arith, counted, long, within))

pub returns-clause-size : goal.returns-clause-size
returns-clause-size c =
    let counted = length-states_of c.in-Ok-sign_sets.states in
    let long = c.in-Ok-sign_sets.ensures.signs.long in
    let same : length c.in-Ok.projection.found.store.nodes + length c.in-Ok.projection.found.states ≡ length c.in-Ok.projection.found.store.nodes + length (states_of c.in-Ok-sign_sets.states) = omega (arith, counted, long) in
    subst (λ (content : Content Sign). SetsOfAnswerAreAtLeast (length content.nodes + length content.states) c.args.body.now c.args.domain.now c.args.quantifier.track.variable) (sym c.make.ensures)
    (subst (λ (n : ℕ). SetsOfAnswerAreAtLeast n c.args.body.now c.args.domain.now c.args.quantifier.track.variable) same c.in-Ok.ensures.size)
