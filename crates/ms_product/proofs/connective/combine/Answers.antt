use Rattle.std.proofs.Common.{◌+◌, ◌≤◌, length, refl, sym, subst, ◌∙◌, arith}
use Rattle.ms_dfa.specs.Automaton.{IsAutomaton, variables_of, states_of}
use Rattle.ms_logic_words.specs.Content.{Content}
use Rattle.ms_logic.specs.Lists.{AreRising, IsAmong}
use Rattle.ms_logic_words.specs.declared.sign.Sign.{Sign}
use Rattle.ms_dfa.specs.Values.{HasValues, own_meaning}
use Rattle.ms_dfa_explore.specs.Tracks.{merged}
use Rattle.ms_dfa_explore.proofs.RunLemmas.{explored, length-states_of}
use Rattle.ms_product.specs.Combined.{combined}
use Rattle.ms_product.specs.Pairing.{Operands, operands_of, product_findings, AreReachedPairs, IsPairedIn, IsPairedStore, AreAtLeast, ReachedAreAtLeast}
use Rattle.ms_product.proofs.ChangeLemmas.{content_is}
use Rattle.ms_product.proofs.CombineSteps.{variables_joined, operands_as}
use Rattle.ms_product.proofs.CombinedLemmas.{wide-rising, left_among, right_among, HasValues-made, IsAutomaton-made}
use Rattle.ms_product.proofs.SizeLemmas.{AreAtLeast-held, ReachedAreAtLeast-held}
use Rattle.ms_product.proofs.connective.combine.Goals as goal

pub over_tracks-requires-clause-rising : goal.over_tracks-requires-clause-rising
over_tracks-requires-clause-rising c =
    subst AreRising (sym (variables_joined c.slice.result.now c.in-Ok.tracks c.tracks.result.now c.tracks-2.result.now c.args.a.now c.args.b.now c.slice.ensures c.in-Ok.ensures c.tracks.ensures.variables c.tracks-2.ensures.variables))
    (wide-rising c.args.op c.args.a.now c.args.b.now c.tracks.ensures.automaton c.tracks-2.ensures.automaton c.requires.mode c.requires.orders)

pub over_tracks-requires-clause-among : goal.over_tracks-requires-clause-among
over_tracks-requires-clause-among c = λ v among.
    subst (λ vs. IsAmong vs v) (sym (variables_joined c.slice.result.now c.in-Ok.tracks c.tracks.result.now c.tracks-2.result.now c.args.a.now c.args.b.now c.slice.ensures c.in-Ok.ensures c.tracks.ensures.variables c.tracks-2.ensures.variables))
    (left_among c.args.op c.args.a.now c.args.b.now c.tracks.ensures.automaton c.tracks-2.ensures.automaton c.requires.mode c.requires.orders v among)

pub over_tracks-requires-2-clause-rising : goal.over_tracks-requires-2-clause-rising
over_tracks-requires-2-clause-rising c =
    subst AreRising (sym (variables_joined c.slice-2.result.now c.in-Ok.tracks c.tracks.result.now c.tracks-2.result.now c.args.a.now c.args.b.now c.slice-2.ensures c.in-Ok.ensures c.tracks.ensures.variables c.tracks-2.ensures.variables))
    (wide-rising c.args.op c.args.a.now c.args.b.now c.tracks.ensures.automaton c.tracks-2.ensures.automaton c.requires.mode c.requires.orders)

pub over_tracks-requires-2-clause-among : goal.over_tracks-requires-2-clause-among
over_tracks-requires-2-clause-among c = λ v among.
    subst (λ vs. IsAmong vs v) (sym (variables_joined c.slice-2.result.now c.in-Ok.tracks c.tracks.result.now c.tracks-2.result.now c.args.a.now c.args.b.now c.slice-2.ensures c.in-Ok.ensures c.tracks.ensures.variables c.tracks-2.ensures.variables))
    (right_among c.args.op c.args.a.now c.args.b.now c.tracks.ensures.automaton c.tracks-2.ensures.automaton c.requires.mode c.requires.orders v among)

pub make-requires : goal.make-requires
make-requires c =
    let a = c.args.a.now in
    let b = c.args.b.now in
    let left = c.in-Ok-over_tracks.left in
    let right = c.in-Ok-over_tracks-2.right in
    let made = c.in-Ok-pair_up.paired in
    let are = operands_as a b left.automaton.now right.automaton.now left.map right.map (merged a.variables b.variables) (variables_of c.slice.result.now) (variables_of c.slice-2.result.now)
    c.in-Ok-over_tracks.ensures.automaton c.in-Ok-over_tracks.ensures.map (variables_joined c.slice.result.now c.in-Ok.tracks c.tracks.result.now c.tracks-2.result.now a b c.slice.ensures c.in-Ok.ensures c.tracks.ensures.variables c.tracks-2.ensures.variables)
    c.in-Ok-over_tracks-2.ensures.automaton c.in-Ok-over_tracks-2.ensures.map (variables_joined c.slice-2.result.now c.in-Ok.tracks c.tracks.result.now c.tracks-2.result.now a b c.slice-2.ensures c.in-Ok.ensures c.tracks.ensures.variables c.tracks-2.ensures.variables) in
    let paired = subst (λ (o : Operands). IsPairedIn made.store.nodes c.args.op o made.pairs made.start made.states) are c.in-Ok-pair_up.ensures.paired in
    let held = subst (λ (o : Operands). IsPairedStore made.store c.args.limit c.args.op o made.pairs) are c.in-Ok-pair_up.ensures.store in
    let same = content_is made.store.nodes c.mode.result c.in-Ok.tracks made.start made.states
    (explored made.store.nodes a.mode (merged a.variables b.variables) made.start made.states (product_findings c.args.op (operands_of a b) made.pairs)) refl c.mode.ensures
    (variables_joined c.in-Ok.tracks c.in-Ok.tracks c.tracks.result.now c.tracks-2.result.now a b refl c.in-Ok.ensures c.tracks.ensures.variables c.tracks-2.ensures.variables) refl refl in
    subst IsAutomaton (sym same)
    (IsAutomaton-made c.args.op a b c.tracks.ensures.automaton c.tracks-2.ensures.automaton c.requires.mode c.requires.orders made.pairs paired.numbering paired.are made.store.nodes made.start made.states
    held.store.ordered held.store.reduced paired.starts paired.all paired.follows paired.numbering.small)

pub returns-clause-values : goal.returns-clause-values
returns-clause-values c =
    let a = c.args.a.now in
    let b = c.args.b.now in
    let left = c.in-Ok-over_tracks.left in
    let right = c.in-Ok-over_tracks-2.right in
    let made = c.in-Ok-pair_up.paired in
    let are = operands_as a b left.automaton.now right.automaton.now left.map right.map (merged a.variables b.variables) (variables_of c.slice.result.now) (variables_of c.slice-2.result.now)
    c.in-Ok-over_tracks.ensures.automaton c.in-Ok-over_tracks.ensures.map (variables_joined c.slice.result.now c.in-Ok.tracks c.tracks.result.now c.tracks-2.result.now a b c.slice.ensures c.in-Ok.ensures c.tracks.ensures.variables c.tracks-2.ensures.variables)
    c.in-Ok-over_tracks-2.ensures.automaton c.in-Ok-over_tracks-2.ensures.map (variables_joined c.slice-2.result.now c.in-Ok.tracks c.tracks.result.now c.tracks-2.result.now a b c.slice-2.ensures c.in-Ok.ensures c.tracks.ensures.variables c.tracks-2.ensures.variables) in
    let paired = subst (λ (o : Operands). IsPairedIn made.store.nodes c.args.op o made.pairs made.start made.states) are c.in-Ok-pair_up.ensures.paired in
    let held = subst (λ (o : Operands). IsPairedStore made.store c.args.limit c.args.op o made.pairs) are c.in-Ok-pair_up.ensures.store in
    let same = content_is made.store.nodes c.mode.result c.in-Ok.tracks made.start made.states
    (explored made.store.nodes a.mode (merged a.variables b.variables) made.start made.states (product_findings c.args.op (operands_of a b) made.pairs)) refl c.mode.ensures
    (variables_joined c.in-Ok.tracks c.in-Ok.tracks c.tracks.result.now c.tracks-2.result.now a b refl c.in-Ok.ensures c.tracks.ensures.variables c.tracks-2.ensures.variables) refl refl in
    subst (HasValues (combined c.args.op (own_meaning a) (own_meaning b))) (sym (c.make.ensures ∙ same))
    (HasValues-made c.args.op a b c.tracks.ensures.automaton c.tracks-2.ensures.automaton c.requires.mode c.requires.orders made.pairs paired.numbering paired.are made.store.nodes made.start made.states
    held.store.ordered held.store.reduced paired.starts paired.all paired.follows)

pub returns-clause-size : goal.returns-clause-size
returns-clause-size c =
    let a = c.args.a.now in
    let b = c.args.b.now in
    let left = c.in-Ok-over_tracks.left in
    let right = c.in-Ok-over_tracks-2.right in
    let made = c.in-Ok-pair_up.paired in
    let are = operands_as a b left.automaton.now right.automaton.now left.map right.map (merged a.variables b.variables) (variables_of c.slice.result.now) (variables_of c.slice-2.result.now)
    c.in-Ok-over_tracks.ensures.automaton c.in-Ok-over_tracks.ensures.map (variables_joined c.slice.result.now c.in-Ok.tracks c.tracks.result.now c.tracks-2.result.now a b c.slice.ensures c.in-Ok.ensures c.tracks.ensures.variables c.tracks-2.ensures.variables)
    c.in-Ok-over_tracks-2.ensures.automaton c.in-Ok-over_tracks-2.ensures.map (variables_joined c.slice-2.result.now c.in-Ok.tracks c.tracks.result.now c.tracks-2.result.now a b c.slice-2.ensures c.in-Ok.ensures c.tracks.ensures.variables c.tracks-2.ensures.variables) in
    let paired = subst (λ (o : Operands). IsPairedIn made.store.nodes c.args.op o made.pairs made.start made.states) are c.in-Ok-pair_up.ensures.paired in
    let held = subst (λ (o : Operands). IsPairedStore made.store c.args.limit c.args.op o made.pairs) are c.in-Ok-pair_up.ensures.store in
    let counted = length-states_of made.states in
    let all = paired.all in
    subst (λ (content : Content Sign). AreAtLeast (length content.nodes + length content.states) c.args.op (operands_of a b)) (sym c.make.ensures)
    (AreAtLeast-held c.args.op (operands_of a b) c.args.limit made.pairs made.store held paired.numbering paired.are (length made.store.nodes + length (states_of made.states)) (omega (arith, counted, all)))

pub returns-clause-reached_size : goal.returns-clause-reached_size
returns-clause-reached_size c =
    let a = c.args.a.now in
    let b = c.args.b.now in
    let left = c.in-Ok-over_tracks.left in
    let right = c.in-Ok-over_tracks-2.right in
    let made = c.in-Ok-pair_up.paired in
    let are = operands_as a b left.automaton.now right.automaton.now left.map right.map (merged a.variables b.variables) (variables_of c.slice.result.now) (variables_of c.slice-2.result.now)
    c.in-Ok-over_tracks.ensures.automaton c.in-Ok-over_tracks.ensures.map (variables_joined c.slice.result.now c.in-Ok.tracks c.tracks.result.now c.tracks-2.result.now a b c.slice.ensures c.in-Ok.ensures c.tracks.ensures.variables c.tracks-2.ensures.variables)
    c.in-Ok-over_tracks-2.ensures.automaton c.in-Ok-over_tracks-2.ensures.map (variables_joined c.slice-2.result.now c.in-Ok.tracks c.tracks.result.now c.tracks-2.result.now a b c.slice-2.ensures c.in-Ok.ensures c.tracks.ensures.variables c.tracks-2.ensures.variables) in
    let paired = subst (λ (o : Operands). IsPairedIn made.store.nodes c.args.op o made.pairs made.start made.states) are c.in-Ok-pair_up.ensures.paired in
    let held = subst (λ (o : Operands). IsPairedStore made.store c.args.limit c.args.op o made.pairs) are c.in-Ok-pair_up.ensures.store in
    let reached = subst (λ (o : Operands). AreReachedPairs o made.pairs) are c.in-Ok-pair_up.ensures.reached in
    let counted = length-states_of made.states in
    let all = paired.all in
    subst (λ (content : Content Sign). ReachedAreAtLeast (length content.nodes + length content.states) c.args.op (operands_of a b)) (sym c.make.ensures)
    (ReachedAreAtLeast-held c.args.op (operands_of a b) c.args.limit made.pairs made.store held paired.numbering paired.are reached (length made.store.nodes + length (states_of made.states)) (omega (arith, counted, all)))

pub returns-clause-within : goal.returns-clause-within
returns-clause-within c =
    let made = c.in-Ok-pair_up.paired in
    let counted = length-states_of made.states in
    let within = c.in-Ok-pair_up.ensures.within in
    subst (λ (content : Content Sign). length content.nodes + length content.states ≤ c.args.limit) (sym c.make.ensures) (omega (arith, counted, within))
