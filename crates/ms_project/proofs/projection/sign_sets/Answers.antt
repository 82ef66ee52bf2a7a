use Rattle.std.proofs.Common.{ℕ, List, length, refl, sym, ap, subst, ◌∙◌}
use Rattle.ms_dfa.specs.declared.state.State.{State}
use Rattle.ms_dfa.specs.declared.track.Track.{Track}
use Rattle.ms_quotient.specs.declared.marks.Marks.{Marks}
use Rattle.ms_dfa.specs.Automaton.{variables_of}
use Rattle.ms_project.specs.Marks.{can_be_empty}
use Rattle.ms_project.specs.Projection.{AreSignedSets}
use Rattle.ms_project.specs.Signed.{AreSigned, TestBelow}
use Rattle.ms_project.proofs.AssemblyLemmas.{IfOk-implies, signed_sets}
use Rattle.ms_project.proofs.projection.sign_sets.Goals as goal

pub closed_marks-requires-clause-tested : goal.closed_marks-requires-clause-tested
closed_marks-requires-clause-tested c =
    let p = c.args.projection.now in
    subst (λ (n : ℕ). TestBelow p.found.store.nodes n c.slice-2.result.now) (sym c.len.ensures)
    (subst (λ (states : List State). TestBelow p.found.store.nodes (length p.tracks) states) (sym c.slice-2.ensures) c.requires.tested)

pub returns : goal.returns
returns c =
    let p = c.args.projection.now in
    IfOk-implies c.sign_states.result _ (AreSignedSets c.args.mode c.args.quant (variables_of p.tracks) p.marks p.found.sets p.found.store.nodes p.found.states)
    (λ signed signs.
    signed_sets c.args.mode c.args.quant p.tracks p.marks c.slice.result.now c.in_ok-marks.marks c.in_ok-closed.closed p.found.sets p.found.sets p.found.store.nodes p.found.states c.slice-2.result.now signed
    c.len.result c.can_be_empty-empty.result c.slice.ensures refl c.slice-2.ensures c.len.ensures c.in_ok-marks.ensures c.in_ok-closed.ensures
    (c.can_be_empty-empty.ensures ∙ ap (λ (tracks : List Track). can_be_empty c.args.mode (variables_of tracks)) c.slice-3.ensures)
    (subst (λ (states : List State). AreSigned c.args.quant c.can_be_empty-empty.result c.in_ok-closed.closed states signed) c.slice-states.ensures
    (subst (λ (closed : List Marks). AreSigned c.args.quant c.can_be_empty-empty.result closed c.slice-states.result.now signed) c.slice-4.ensures signs)))
    c.sign_states.ensures
