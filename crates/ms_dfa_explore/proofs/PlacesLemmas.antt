-- The places of the variables with a value: they rise, and what is read at them are the bits of a word.
use Rattle.std.proofs.Common.{◌≡◌, ◌≢◌, ℕ, zero, suc, ◌+◌, ◌<◌, ◌≤◌, Bool, true, false, IsTrue, if◌then◌else◌, List, [], ◌∷◌, length, slice_get, slice_index_or, Some, refl, sym, ap, subst, ◌∙◌, arith}
use Rattle.std.proofs.lemmas.Bool.{false≢true}
use Rattle.std.proofs.lemmas.Option.{same_Some, slice_get_within}
use Rattle.ms_arena.specs.Bits.{with_bit}
use Rattle.ms_arena.specs.Diagram.{Bits}
use Rattle.ms_arena.proofs.BitsLemmas.{with_bit-other}
use Rattle.ms_logic.specs.declared.mode.Order.{Order}
use Rattle.ms_logic.specs.Assignment.{Variable}
use Rattle.ms_logic_words.specs.Content.{HasValueAt, bits_at, padded, head_bit, tail_bits}
use Rattle.ms_logic.specs.FiniteSet.{IsRising, IsBelowFirst}
use Rattle.ms_dfa_explore.specs.declared.small.TrackBits.{TrackBits}
use Rattle.ms_dfa_explore.specs.Small.{zero_bits, with_bit_at, read_tracks, track_bits, places_of}

module _ (has_value : Order → Bool) where
  -- the places rise
  below_places : (low place : ℕ) (vs : List Variable) → low < place → IsBelowFirst low (places_of has_value place vs)
  below_places low place [] less = tt
  below_places low place (v ∷ vs) less =
      elim (has_value v.order) as (λ test. IsBelowFirst low (if test then place ∷ places_of has_value (place + 1) vs else places_of has_value (place + 1) vs)) [
        | true ↦ less
        | false ↦ below_places low (place + 1) vs (omega (arith, less))
      ]

  pub IsRising-places : (place : ℕ) (vs : List Variable) → IsRising (places_of has_value place vs)
  IsRising-places place [] = tt
  IsRising-places place (v ∷ vs) =
      elim (has_value v.order) as (λ test. IsRising (if test then place ∷ places_of has_value (place + 1) vs else places_of has_value (place + 1) vs)) [
        | true ↦ (below_places place (place + 1) vs (omega arith), IsRising-places (place + 1) vs)
        | false ↦ IsRising-places (place + 1) vs
      ]

  -- where no variable with a value stands, the bit is 0
  pub spread_absent : (vs : List Variable) (values : List Bool) (place : ℕ) → ¬ HasValueAt vs has_value place → bits_at (padded has_value vs values) place ≡ false
  spread_absent [] values place absent = refl
  spread_absent (v ∷ vs) values zero absent = by_test (has_value v.order) refl
    where
      by_test : (test : Bool) → has_value v.order ≡ test
          → slice_index_or (if test then head_bit values ∷ padded has_value vs (tail_bits values) else false ∷ padded has_value vs values) 0 false ≡ false
      by_test true is = absurd (absent (v, refl, subst IsTrue (sym is) refl))
      by_test false is = refl
  spread_absent (v ∷ vs) values (suc place) absent =
      elim (has_value v.order) as (λ test. slice_index_or (if test then head_bit values ∷ padded has_value vs (tail_bits values) else false ∷ padded has_value vs values) (suc place) false ≡ false) [
        | true ↦ spread_absent vs (tail_bits values) place absent
        | false ↦ spread_absent vs values place absent
      ]

  -- a bit at a place of no variable with a value is not read
  pub read_tracks-absent : (place : ℕ) (vs : List Variable) (given : TrackBits) (bits : Bits) (var : ℕ) (value : Bool) → ((i : ℕ) → var ≡ place + i → ¬ HasValueAt vs has_value i)
      → read_tracks (places_of has_value place vs) given (with_bit bits var value) ≡ read_tracks (places_of has_value place vs) given bits
  read_tracks-absent place [] given bits var value absent = refl
  read_tracks-absent place (v ∷ vs) given bits var value absent =
      by_test (λ more. read_tracks-absent (place + 1) vs more bits var value (λ i is there. absent (suc i) (omega (arith, is)) there)) (has_value v.order) refl
    where
      by_test : ((more : TrackBits) → read_tracks (places_of has_value (place + 1) vs) more (with_bit bits var value) ≡ read_tracks (places_of has_value (place + 1) vs) more bits)
          → (test : Bool) → has_value v.order ≡ test
          → read_tracks (if test then place ∷ places_of has_value (place + 1) vs else places_of has_value (place + 1) vs) given (with_bit bits var value)
          ≡ read_tracks (if test then place ∷ places_of has_value (place + 1) vs else places_of has_value (place + 1) vs) given bits
      by_test others true is =
          let other : place ≢ var = λ same. absent 0 (omega (arith, same)) (v, refl, subst IsTrue (sym is) refl) in
          ap (λ bit. read_tracks (places_of has_value (place + 1) vs) (with_bit_at given place bit) (with_bit bits var value)) (with_bit-other bits var value place other)
          ∙ others (with_bit_at given place (bits place))
      by_test others false is = others given

-- the places by whether each of three tracks has a value
abbrev pub placed : Bool → Bool → Bool → List ℕ
placed a b c =
    if a then 0 ∷ (if b then 1 ∷ (if c then 2 ∷ [] else []) else (if c then 2 ∷ [] else [])) else (if b then 1 ∷ (if c then 2 ∷ [] else []) else (if c then 2 ∷ [] else []))

-- what is read at them are the bits, where the others are 0
read_placed : (a b c : Bool) (bits : Bits) → (a ≡ false → bits 0 ≡ false) → (b ≡ false → bits 1 ≡ false) → (c ≡ false → bits 2 ≡ false)
    → read_tracks (placed a b c) zero_bits bits ≡ track_bits bits
read_placed true true true bits one two three = refl
read_placed true true false bits one two three = λ i. record { first = bits 0; second = bits 1; third = sym (three refl) i }
read_placed true false true bits one two three = λ i. record { first = bits 0; second = sym (two refl) i; third = bits 2 }
read_placed true false false bits one two three = λ i. record { first = bits 0; second = sym (two refl) i; third = sym (three refl) i }
read_placed false true true bits one two three = λ i. record { first = sym (one refl) i; second = bits 1; third = bits 2 }
read_placed false true false bits one two three = λ i. record { first = sym (one refl) i; second = bits 1; third = sym (three refl) i }
read_placed false false true bits one two three = λ i. record { first = sym (one refl) i; second = sym (two refl) i; third = bits 2 }
read_placed false false false bits one two three = λ i. record { first = sym (one refl) i; second = sym (two refl) i; third = sym (three refl) i }

module _ (has_value : Order → Bool) (values : List Bool) where
  -- a variable without a value has the bit 0
  without : (vs : List Variable) (place : ℕ) (v : Variable) → slice_get vs place ≡ Some v → has_value v.order ≡ false → bits_at (padded has_value vs values) place ≡ false
  without vs place v there is = spread_absent has_value vs values place (λ found.
      let same : found.0 ≡ v = same_Some found.0 v (sym found.1 ∙ there) in
      let holds : IsTrue (has_value v.order) = subst (λ (u : Variable). IsTrue (has_value u.order)) same found.2 in
      let never : IsTrue false = subst IsTrue is holds in false≢true never)

  -- and so has a place past the end
  past : (vs : List Variable) (place : ℕ) → length vs ≤ place → bits_at (padded has_value vs values) place ≡ false
  past vs place end = spread_absent has_value vs values place (λ found. let within = slice_get_within vs place found.0 found.1 in omega (arith, within, end))

  -- over three variables at most, what is read at the places of a word are its bits
  pub read_word : (vs : List Variable) → length vs ≤ 3
      → read_tracks (places_of has_value 0 vs) zero_bits (bits_at (padded has_value vs values)) ≡ track_bits (bits_at (padded has_value vs values))
  read_word [] few = refl
  read_word (u ∷ []) few =
      read_placed (has_value u.order) false false (bits_at (padded has_value (u ∷ []) values)) (without (u ∷ []) 0 u refl)
      (λ is. past (u ∷ []) 1 (omega arith)) (λ is. past (u ∷ []) 2 (omega arith))
  read_word (u ∷ v ∷ []) few =
      read_placed (has_value u.order) (has_value v.order) false (bits_at (padded has_value (u ∷ v ∷ []) values)) (without (u ∷ v ∷ []) 0 u refl)
      (without (u ∷ v ∷ []) 1 v refl) (λ is. past (u ∷ v ∷ []) 2 (omega arith))
  read_word (u ∷ v ∷ w ∷ []) few =
      read_placed (has_value u.order) (has_value v.order) (has_value w.order) (bits_at (padded has_value (u ∷ v ∷ w ∷ []) values)) (without (u ∷ v ∷ w ∷ []) 0 u refl)
      (without (u ∷ v ∷ w ∷ []) 1 v refl) (without (u ∷ v ∷ w ∷ []) 2 w refl)
  read_word (u ∷ v ∷ w ∷ x ∷ vs) few = absurd (omega (arith, few))
