use Rattle.std.proofs.Common.{◌≡◌, ℕ, List, sym, ap, subst, ◌∙◌}
use Rattle.ms_dfa.specs.Automaton.{variable_of}
use Rattle.ms_dfa_explore.specs.Tracks.{place_of}
use Rattle.ms_project.specs.Paired.{places_left}
use Rattle.ms_project.specs.Subsetting.{Subsetting, AreSetsFound, IsReadyForSets, IsLaterSubsetting, begun, with_sets}
use Rattle.ms_project.proofs.SearchLemmas.{projection_found, ready_at_first}
use Rattle.ms_project.proofs.projection.search_behind.Goals as goal

pub find_sets-requires-clause-ready : goal.find_sets-requires-clause-ready
find_sets-requires-clause-ready c =
    let product = c.args.product in
    let body = product.body.now in
    let name = c.args.track.variable in
    let bound_is : c.in-Ok-try_from.bound ≡ place_of name body.variables = c.in-Ok-try_from.ensures.1 ∙ c.place_of-place.ensures ∙ ap (place_of name) c.tracks-3.ensures.variables in
    let back_is : c.in-Ok.rest.back ≡ places_left name 0 body.variables = c.in-Ok.ensures.back ∙ ap (places_left name 0) c.tracks.ensures.variables in
    subst (λ (back : List ℕ). IsReadyForSets (begun body product.store.now product.start product.states c.in-Ok-try_from.bound back)) (sym back_is)
    (subst (λ (bound : ℕ). IsReadyForSets (begun body product.store.now product.start product.states bound (places_left name 0 body.variables))) (sym bound_is)
    (ready_at_first body c.args.domain.now c.tracks.ensures.automaton c.tracks-2.ensures.automaton c.requires.domain (variable_of c.args.track) c.requires.bound product.store.now c.len.ensures.store
    product.pairs product.start product.states c.requires.paired))

pub returns-clause-projection : goal.returns-clause-projection
returns-clause-projection c =
    let product = c.args.product in
    let body = product.body.now in
    let name = c.args.track.variable in
    let found = c.in-Ok-find_sets.found in
    let first : ℕ → List ℕ → Subsetting = λ bound back. begun body product.store.now product.start product.states bound back in
    let behind = first (place_of name body.variables) (places_left name 0 body.variables) in
    let bound_is : c.in-Ok-try_from.bound ≡ place_of name body.variables = c.in-Ok-try_from.ensures.1 ∙ c.place_of-place.ensures ∙ ap (place_of name) c.tracks-3.ensures.variables in
    let back_is : c.in-Ok.rest.back ≡ places_left name 0 body.variables = c.in-Ok.ensures.back ∙ ap (places_left name 0) c.tracks.ensures.variables in
    let first_is : first c.in-Ok-try_from.bound c.in-Ok.rest.back ≡ behind = λ i. first (bound_is i) (back_is i) in
    let later = subst (λ (v : Subsetting). IsLaterSubsetting v (with_sets v found.sets)) first_is c.in-Ok-find_sets.ensures.later in
    let are = subst (λ (v : Subsetting). AreSetsFound (with_sets v found.sets) found.store found.start found.states) first_is c.in-Ok-find_sets.ensures.found in
    record {
      begun_with = behind;
      is =
          projection_found body c.args.domain.now c.tracks.ensures.automaton c.tracks-2.ensures.automaton c.requires.domain (variable_of c.args.track) c.requires.bound product.store.now c.len.ensures.store
          product.pairs product.start product.states c.requires.paired (with_sets behind found.sets) later found.store found.start found.states are c.in-Ok-marks_of_pairs.marks c.in-Ok-marks_of_pairs.ensures;
    }
