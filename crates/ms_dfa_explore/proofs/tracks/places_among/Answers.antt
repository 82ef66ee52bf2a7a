use Rattle.std.proofs.Common.{◌≡◌, ◌+◌, List, [], ◌∷◌, ◌++◌, drop, get_or, inl, refl, sym, ap, subst, ◌∙◌, append_assoc}
use Rattle.std.proofs.lemmas.List.{drop_more}
use Rattle.ms_logic.specs.declared.mode.Order.TheVariants.{Zero}
use Rattle.ms_dfa.specs.declared.track.Track.{Track}
use Rattle.ms_dfa.specs.Automaton.{variable_of, variables_of}
use Rattle.ms_dfa_explore.specs.Tracks.{place_of, places_among}
use Rattle.ms_logic.specs.Lists.{IsAmong}
use Rattle.ms_dfa_explore.proofs.TracksLemmas.{next_place}
use Rattle.ms_dfa_explore.proofs.tracks.places_among.Goals as goal

pub loop-track-preserved : goal.loop-track-preserved
loop-track-preserved c =
    let narrow = c.args.narrow.now in
    let wide = c.args.wide.now in
    let i = c.loop-track.track-index in
    let none : Track = record { variable = 0; order = Zero } in
    let track = get_or narrow i none in
    let more = drop (i + 1) narrow in
    let is : drop i narrow ≡ track ∷ more = drop_more narrow i none c.loop-track-test.true in
    let was = c.loop-track.invariant in
    let here : IsAmong (variables_of (drop i narrow)) (variable_of track) = subst (λ (ts : List Track). IsAmong (variables_of ts) (variable_of track)) (sym is) (inl refl) in
    let at : place_of track.variable (variables_of wide) ≡ c.seek-from.result = was.2 (variable_of track) here ∙ sym c.seek-from.ensures.place in
    let pushed : c.push.new.list ≡ c.loop-track.made ++ place_of track.variable (variables_of wide) ∷ [] = c.in_ok-push.ensures.ok ∙ ap (λ n. c.loop-track.made ++ n ∷ []) (c.in-Ok.ensures.1 ∙ sym at) in (
      c.seek-from.ensures.within,
      ap (λ list. list ++ places_among (variables_of more) (variables_of wide)) pushed
          ∙ append_assoc c.loop-track.made (place_of track.variable (variables_of wide) ∷ []) (places_among (variables_of more) (variables_of wide))
          ∙ ap (λ (ts : List Track). c.loop-track.made ++ places_among (variables_of ts) (variables_of wide)) (sym is)
          ∙ was.1,
      next_place narrow wide i c.seek-from.result track more c.requires.narrow c.requires.wide c.requires.among is at,
    )
