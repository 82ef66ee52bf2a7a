use Rattle.std.proofs.Common.{◌≡◌, ◌⊎◌, inl, inr, ⊎_elim, ◌+◌, ℕ, List, false, true, get_or, ap, refl, sym, subst, ◌∙◌}
use Rattle.std.specs.Option.{option_map}
use Rattle.std.proofs.lemmas.Bool.{false≢true}
use Rattle.std.proofs.lemmas.Option.{slice_get-get_or, slice_get-map}
use Rattle.ms_dfa.specs.Automaton.{variable_of, variables_of}
use Rattle.ms_dfa.specs.declared.track.Track.{Track}
use Rattle.ms_logic.specs.declared.mode.Order.{Order}
use Rattle.ms_logic.specs.declared.mode.Order.TheVariants.{Zero, One, Two}
use Rattle.ms_dfafile_adopt.specs.Short.{AreNumbers}
use Rattle.ms_dfafile_adopt.proofs.NumberLemmas.{TellsNumbers-more, TellsNumbers-other, equal_orders}
use Rattle.ms_dfafile_adopt.proofs.numbers.numbers.Goals as goal
use Rattle.ms_dfafile_adopt.proofs.numbers.numbers.Goals.{then-eq+in-Ok-with_track, else-eq}

-- the track of this turn
abbrev track_at : List Track → ℕ → Track
track_at tracks place = get_or tracks place (record { variable = 0; order = Zero })

order_cases : (o : Order) → (o ≡ One) ⊎ ((o ≡ Zero) ⊎ (o ≡ Two))
order_cases Zero = inr (inl refl)
order_cases One = inl refl
order_cases Two = inr (inr refl)

pub with_track-requires-clause-orders : goal.with_track-requires-clause-orders
with_track-requires-clause-orders c =
    let tracks = c.args.tracks.now in
    let i = c.loop-track.track-index in
    let held = slice_get-map variable_of tracks i ∙ ap (option_map variable_of) (slice_get-get_or tracks i (record { variable = 0; order = Zero }) c.loop-track-test.true) in
    equal_orders (variables_of tracks) c.requires.rising i (variable_of (track_at tracks i)) held c.loop-track.made c.loop-track.invariant.tells

pub loop-track-preserved : goal.loop-track-preserved
loop-track-preserved c =
    let tracks = c.args.tracks.now in
    let i = c.loop-track.track-index in
    let v = variable_of (track_at tracks i) in
    let held = slice_get-map variable_of tracks i ∙ ap (option_map variable_of) (slice_get-get_or tracks i (record { variable = 0; order = Zero }) c.loop-track-test.true) in
    let vs = variables_of tracks in
    elim c.if-eq.branch [
      | then-eq+in-Ok-with_track w ↦
          subst (AreNumbers vs (i + 1)) (sym w.made-is) (record {
            tells = TellsNumbers-more vs c.requires.rising i v held c.loop-track.made c.loop-track.invariant.tells w.states.ensures.automaton w.in-Ok-with_track.wide w.in-Ok-with_track.ensures.mode
                w.in-Ok-with_track.ensures.variables w.in-Ok-with_track.ensures.values
                (⊎_elim (λ is. is) (λ others. absurd (⊎_elim
                (λ zero. let never : true ≡ false = rw zero at w.if-eq.ensures in false≢true (sym never))
                (λ two. let never : true ≡ false = rw two at w.if-eq.ensures in false≢true (sym never))
                others)) (order_cases v.order));
            least = w.in-Ok-with_track.ensures.least;
          })
      | else-eq w ↦
          subst (AreNumbers vs (i + 1)) (sym w.made-is) (record {
            tells = TellsNumbers-other vs c.requires.rising i v held c.loop-track.made c.loop-track.invariant.tells (λ number. let never : false ≡ true = rw number at w.if-eq.ensures in false≢true never);
            least = c.loop-track.invariant.least;
          })
    ]
