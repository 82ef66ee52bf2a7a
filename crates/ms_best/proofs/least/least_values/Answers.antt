use Rattle.std.proofs.Common.{◌≡◌, ◌<◌, ◌==◌, ℕ, false, not, List, length, get_or, slice_get, Some, ap, sym, ◌∙◌}
use Rattle.std.specs.Option.{option_map}
use Rattle.std.proofs.lemmas.Option.{slice_get-map, slice_get-get_or}
use Rattle.ms_arena.specs.Halves.{half_of}
use Rattle.ms_logic.specs.declared.mode.Order.TheVariants.{Zero}
use Rattle.ms_logic.specs.Assignment.{Variable}
use Rattle.ms_dfa.specs.declared.track.Track.{Track}
use Rattle.ms_dfa.specs.Automaton.{variable_of}
use Rattle.ms_dfa.specs.Part.{has_value}
use Rattle.ms_best.specs.inner.Automaton.{distance_of}
use Rattle.ms_best.specs.inner.Least.{needs_one}
use Rattle.ms_best.proofs.LeastValues.{taken_past, taken_more}
use Rattle.ms_best.proofs.Nearness.{kept_distance}
use Rattle.ms_best.proofs.least.least_values.Goals as goal
use Rattle.ms_best.proofs.least.least_values.Goals.{then-is_in+in-Ok, else-is_in}

abbrev any_track : Track
any_track = record { variable = 0; order = Zero }

-- the track at a place is that of the variable there
track_there : (tracks : List Track) (variables : List Variable) (place : ℕ) → place < length tracks → (shown : List Variable) → shown ≡ variables
    → ((k : ℕ) → slice_get shown k ≡ option_map variable_of (slice_get tracks k)) → slice_get variables place ≡ Some (variable_of (get_or tracks place any_track))
track_there tracks variables place within shown same shows =
    ap (λ vs. slice_get vs place) (sym same) ∙ shows place ∙ ap (option_map variable_of) (slice_get-get_or tracks place any_track within)

pub loop-place-preserved : goal.loop-place-preserved
loop-place-preserved c =
    let v = variable_of (get_or c.tracks-tracks.result.now c.loop-place.place any_track) in
    let there : slice_get c.args.automaton.now.variables c.loop-place.place ≡ Some v
    = track_there c.tracks-tracks.result.now c.args.automaton.now.variables c.loop-place.place c.loop-place-test.true _ c.tracks-tracks.ensures.variables
    (λ k. slice_get-map variable_of c.tracks-tracks.result.now k) in
    elim c.if-is_in.branch [
      | then-is_in+in-Ok w ↦
          (let low : w.half-low.result ≡ half_of c.args.automaton.now.nodes c.loop-place.place false c.loop-place.reference
          = w.half-low.ensures ∙ ap (λ nodes. half_of nodes c.loop-place.place false c.loop-place.reference) w.store.ensures in
          let bit : not (w.of.result == w.of-then-is_in.result) ≡ needs_one c.args.automaton.now c.args.distances.now.values.items c.loop-place.place c.loop-place.reference
          = ap (λ one. not (one == w.of-then-is_in.result))
          (kept_distance c.args.automaton.now c.args.distances.now.values.items c.args.distances.now.states c.args.distances.now.nodes w.half-low.result w.of.result c.requires.states c.requires.nodes w.of.ensures
          ∙ ap (distance_of c.args.automaton.now c.args.distances.now.values.items) low)
          ∙ ap (λ other. not (distance_of c.args.automaton.now c.args.distances.now.values.items (half_of c.args.automaton.now.nodes c.loop-place.place false c.loop-place.reference) == other))
          (kept_distance c.args.automaton.now c.args.distances.now.values.items c.args.distances.now.states c.args.distances.now.nodes c.loop-place.reference w.of-then-is_in.result c.requires.states c.requires.nodes w.of-then-is_in.ensures) in
          let taken = taken_more c.args.automaton.now c.args.distances.now.values.items c.tracks-tracks.ensures.automaton.ordered (has_value c.args.part) c.args.root c.loop-place.place v c.loop-place.values c.loop-place.reference
          there c.loop-place.invariant (not (w.of.result == w.of-then-is_in.result)) (sym c.is_in.ensures ∙ w.if-is_in.true) bit in
          rw (w.values-is, w.in-Ok.ensures.ok, w.reference-is, w.half-reference.ensures, w.store-then-is_in.ensures) taken)
      | else-is_in w ↦
          rw (w.values-is, w.reference-is)
          (taken_past c.args.automaton.now c.args.distances.now.values.items c.tracks-tracks.ensures.automaton.ordered (has_value c.args.part) c.args.root c.loop-place.place v c.loop-place.values c.loop-place.reference
          there c.loop-place.invariant (sym c.is_in.ensures ∙ w.if-is_in.false))
    ]
