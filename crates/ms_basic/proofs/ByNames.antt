-- Bits of tracks by the names of the variables there, as operands read them.
use Rattle.std.proofs.Common.{◌≡◌, ℕ, zero, suc, ◌≤◌, inl, inr, Bool, true, false, if◌then◌else◌, List, [], ◌∷◌, length, slice_get, Some, refl, ap, ◌∙◌, arith}
use Rattle.std.proofs.lemmas.Option.{none-some, same_Some, slice_get_within}
use Rattle.ms_logic.specs.declared.mode.Order.{Order}
use Rattle.ms_logic.specs.Assignment.{Variable}
use Rattle.ms_logic.specs.Lists.{AreRising, IsAmong}
use Rattle.ms_logic_words.specs.Content.{HasValueAt}
use Rattle.ms_dfa_explore.specs.declared.small.TrackBits.{TrackBits}
use Rattle.ms_dfa_explore.specs.Small.{bit_at, track_bits}
use Rattle.ms_dfa_explore.specs.Tracks.{distinct, place_of}
use Rattle.ms_dfa_explore.proofs.TracksLemmas.{distinct-rising, place_of-among}
use Rattle.ms_basic.specs.Operands.{HaveOneOrder}
use Rattle.ms_basic.specs.inner.Apart.{AreBitsOver}
use Rattle.ms_basic.specs.inner.Reading.{read_at, track_at, wiring_of}
use Rattle.ms_basic.proofs.DistinctLemmas.{among-distinct, length-distinct}
use Rattle.ms_basic.proofs.ReadingLemmas.{bit_at-track_bits}

module _ (has_value : Order → Bool) (bit_of_name : ℕ → Bool) where
  -- the bit of the variable at a place, by its name; 0 for one without a value, and where there is none
  abbrev pub named_bit : List Variable → ℕ → Bool
  named_bit [] place = false
  named_bit (v ∷ vs) zero = if has_value v.order then bit_of_name v.name else false
  named_bit (v ∷ vs) (suc place) = named_bit vs place

  abbrev pub named_bits : List Variable → TrackBits
  named_bits vs = track_bits (named_bit vs)

  zero_elsewhere : (vs : List Variable) (place : ℕ) → ¬ HasValueAt vs has_value place → named_bit vs place ≡ false
  zero_elsewhere [] place never = refl
  zero_elsewhere (v ∷ vs) zero never = by_test (has_value v.order) refl
    where
      by_test : (test : Bool) → has_value v.order ≡ test → (if test then bit_of_name v.name else false) ≡ false
      by_test true is = absurd (never (v, refl, is))
      by_test false is = refl
  zero_elsewhere (v ∷ vs) (suc place) never = zero_elsewhere vs place never

  pub bits_over : (vs : List Variable) → AreBitsOver has_value vs (named_bits vs)
  bits_over vs zero never = zero_elsewhere vs 0 never
  bits_over vs (suc zero) never = zero_elsewhere vs 1 never
  bits_over vs (suc (suc zero)) never = zero_elsewhere vs 2 never
  bits_over vs (suc (suc (suc place))) never = refl

  -- an operand reads the bit of its own name, at whichever track it stands
  bit_at_place : (vs : List Variable) (place : ℕ) (v : Variable) → slice_get vs place ≡ Some v → named_bit vs place ≡ (if has_value v.order then bit_of_name v.name else false)
  bit_at_place [] place v there = absurd (none-some v there)
  bit_at_place (first ∷ vs) zero v there = ap (λ (u : Variable). if has_value u.order then bit_of_name u.name else false) (same_Some first v there)
  bit_at_place (first ∷ vs) (suc place) v there = bit_at_place vs place v there

  operand_reads : (tracks operands : List Variable) (operand : ℕ) → AreRising tracks → length tracks ≤ 3 → ((v : Variable) → IsAmong operands v → IsAmong tracks v)
      → bit_at (named_bits tracks) (track_at operands tracks operand) ≡ named_bit operands operand
  operand_reads tracks [] operand rising few among = refl
  operand_reads tracks (v ∷ vs) zero rising few among =
      let there = place_of-among tracks v rising (among v (inl refl)) in
      let within = slice_get_within tracks (place_of v.name tracks) v there in
      bit_at-track_bits (named_bit tracks) (place_of v.name tracks) (omega (arith, within, few)) ∙ bit_at_place tracks (place_of v.name tracks) v there
  operand_reads tracks (v ∷ vs) (suc operand) rising few among = operand_reads tracks vs operand rising few (λ u there. among u (inr there))

  pub operands_read : (operands : List Variable) → HaveOneOrder operands → length operands ≤ 3
      → read_at (wiring_of operands (distinct operands)) (named_bits (distinct operands)) ≡ named_bits operands
  operands_read operands orders few =
      let rising = distinct-rising operands in
      let few_tracks : length (distinct operands) ≤ 3 = omega (arith, few, length-distinct operands) in
      let among : (v : Variable) → IsAmong operands v → IsAmong (distinct operands) v = λ v there. among-distinct operands v orders there in
      λ i. record {
        first = operand_reads (distinct operands) operands 0 rising few_tracks among i;
        second = operand_reads (distinct operands) operands 1 rising few_tracks among i;
        third = operand_reads (distinct operands) operands 2 rising few_tracks among i;
      }
