use Rattle.std.proofs.Common.{length, List, map, ap, sym, subst, ◌∙◌}
use Rattle.ms_arena.specs.declared.node.Ref.{Ref}
use Rattle.ms_arena.specs.declared.node.Node.{Node}
use Rattle.ms_dfa.specs.Automaton.{content_of, variables_of}
use Rattle.ms_dfa_explore.specs.Tracks.{distinct, places_among}
use Rattle.ms_rename.specs.inner.Image.{AreImages, IsRenamedBy, image_of, with_image}
use Rattle.ms_rename.specs.Renamed.{renamed, renamed_places}
use Rattle.ms_rename.proofs.ImageLemmas.{IsRenamedBy-made}
use Rattle.ms_rename.proofs.RenamedLemmas.{IsAutomaton-renamed}
use Rattle.ms_rename.proofs.renaming.renamed_in_scratch.Goals as goal

pub make-requires : goal.make-requires
make-requires c =
    let a = c.args.a.now in
    let narrow_is = c.in_ok-narrow.ensures ∙ ap (renamed c.args.map.now) c.tracks.ensures.variables in
    let wide_is = c.in_ok-wide.ensures ∙ ap (λ vs. distinct vs) (ap variables_of c.slice.ensures ∙ narrow_is) in
    let places_are = c.slice-4.ensures ∙ c.in_ok-places.ensures ∙ (λ i. places_among ((ap variables_of c.slice-2.ensures ∙ narrow_is) i) ((ap variables_of c.slice-3.ensures ∙ wide_is) i)) in
    let new = c.images.new.scratch.nodes in
    let made = content_of new c.mode.result c.in_ok-wide.wide c.image-start.result c.in_ok-states.states in
    let are = subst (λ places. AreImages new a.nodes places c.in-Ok.images) places_are (subst (λ (nodes : List Node). AreImages new nodes c.slice-4.result.now c.in-Ok.images) c.store.ensures c.in-Ok.ensures.images) in
    let start = c.image-start.ensures ∙ (λ i. image_of (c.slice-6.ensures i) (c.start_ref.ensures.start i)) in
    let states = c.in_ok-states.ensures ∙ ap (λ (images : List Ref). map (with_image images) a.states) c.slice-5.ensures in
    IsAutomaton-renamed c.args.map.now a c.tracks.ensures.automaton c.requires.long c.requires.orders made c.mode.ensures wide_is
    (IsRenamedBy-made a made (renamed_places c.args.map.now a.variables) c.in-Ok.images c.tracks.ensures.automaton.closed (c.in-Ok.ensures.long ∙ ap length c.store.ensures) are start states)
    c.len.ensures.store.ordered c.len.ensures.store.reduced

pub returns-clause-images : goal.returns-clause-images
returns-clause-images c =
    let a = c.args.a.now in
    let narrow_is = c.in_ok-narrow.ensures ∙ ap (renamed c.args.map.now) c.tracks.ensures.variables in
    let wide_is = c.in_ok-wide.ensures ∙ ap (λ vs. distinct vs) (ap variables_of c.slice.ensures ∙ narrow_is) in
    let places_are = c.slice-4.ensures ∙ c.in_ok-places.ensures ∙ (λ i. places_among ((ap variables_of c.slice-2.ensures ∙ narrow_is) i) ((ap variables_of c.slice-3.ensures ∙ wide_is) i)) in
    let new = c.images.new.scratch.nodes in
    let made = content_of new c.mode.result c.in_ok-wide.wide c.image-start.result c.in_ok-states.states in
    let are = subst (λ places. AreImages new a.nodes places c.in-Ok.images) places_are (subst (λ (nodes : List Node). AreImages new nodes c.slice-4.result.now c.in-Ok.images) c.store.ensures c.in-Ok.ensures.images) in
    let start = c.image-start.ensures ∙ (λ i. image_of (c.slice-6.ensures i) (c.start_ref.ensures.start i)) in
    let states = c.in_ok-states.ensures ∙ ap (λ (images : List Ref). map (with_image images) a.states) c.slice-5.ensures in
    subst (IsRenamedBy (renamed_places c.args.map.now a.variables) a) (sym c.make.ensures)
    (IsRenamedBy-made a made (renamed_places c.args.map.now a.variables) c.in-Ok.images c.tracks.ensures.automaton.closed (c.in-Ok.ensures.long ∙ ap length c.store.ensures) are start states)
