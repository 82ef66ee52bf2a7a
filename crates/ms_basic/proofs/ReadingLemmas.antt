-- What machines over operands read of the words that encode an assignment.
use Rattle.std.proofs.Common.{◌≡◌, ℕ, zero, suc, ◌<◌, ◌≤◌, inl, inr, nat_eq, Bool, true, false, if◌then◌else◌, List, [], ◌∷◌, length, get_or, slice_get, Some, refl, ap, ◌∙◌, arith}
use Rattle.std.proofs.lemmas.Option.{none-some, same_Some, slice_get_within}
use Rattle.ms_list.specs.declared.word.Word.{Word}
use Rattle.ms_arena.specs.Diagram.{Bits}
use Rattle.ms_logic.specs.declared.mode.Order.{Order}
use Rattle.ms_logic.specs.declared.mode.Order.TheVariants.{Zero, One, Two}
use Rattle.ms_logic.specs.Assignment.{Env, Variable}
use Rattle.ms_logic_words.specs.Content.{letter_bits, truth_bits}
use Rattle.ms_logic.specs.Lists.{AreRising, IsAmong}
use Rattle.ms_logic_words.specs.Word.{Encodes}
use Rattle.ms_logic.specs.Letters.{letter_at, truth_values_of, with_bit, with_truth_value}
use Rattle.ms_dfa.specs.Machine.{end_of, IsScan}
use Rattle.ms_dfa.proofs.MachineLemmas.{scanned}
use Rattle.ms_dfa.specs.declared.track.Track.{Track}
use Rattle.ms_dfa.specs.Automaton.{variables_of}
use Rattle.ms_dfa_explore.specs.Small.{TransitionTable, bit_at, machine_of, track_bits}
use Rattle.ms_dfa_explore.specs.Tracks.{place_of}
use Rattle.ms_dfa_explore.proofs.TracksLemmas.{place_of-among}
use Rattle.ms_basic.specs.inner.Reading.{bit_of, operand_bits, operand_bit, operand_truth, read_at, state_behind, track_at, operand_truths, truth_of, wired, wiring_of}

-- the bit of a variable in a letter, by the place where it stands
first_bit : (o : Order) (x : ℕ) (vs : List Variable) (e : Env) (position : ℕ)
    → letter_bits (record { name = x; order = o } ∷ vs) (with_bit o x position e (letter_at vs e position)) 0 ≡ bit_of o x e position
first_bit Zero x vs e position = refl
first_bit One x vs e position = refl
first_bit Two x vs e position = refl

later_bit : (o : Order) (x : ℕ) (vs : List Variable) (e : Env) (position place : ℕ) (more : List Bool)
    → letter_bits (record { name = x; order = o } ∷ vs) (with_bit o x position e more) (suc place) ≡ letter_bits vs more place
later_bit Zero x vs e position place more = refl
later_bit One x vs e position place more = refl
later_bit Two x vs e position place more = refl

pub letter_bit : (vs : List Variable) (e : Env) (position place : ℕ) (v : Variable) → slice_get vs place ≡ Some v
    → letter_bits vs (letter_at vs e position) place ≡ bit_of v.order v.name e position
letter_bit [] e position place v there = absurd (none-some v there)
letter_bit (first ∷ vs) e position zero v there =
    first_bit first.order first.name vs e position ∙ ap (λ (u : Variable). bit_of u.order u.name e position) (same_Some first v there)
letter_bit (first ∷ vs) e position (suc place) v there =
    later_bit first.order first.name vs e position place (letter_at vs e position) ∙ letter_bit vs e position place v there

-- and its truth value
first_truth : (o : Order) (x : ℕ) (vs : List Variable) (e : Env)
    → truth_bits (record { name = x; order = o } ∷ vs) (with_truth_value o x e (truth_values_of vs e)) 0 ≡ truth_of o x e
first_truth Zero x vs e = refl
first_truth One x vs e = refl
first_truth Two x vs e = refl

later_truth : (o : Order) (x : ℕ) (vs : List Variable) (e : Env) (place : ℕ) (more : List Bool)
    → truth_bits (record { name = x; order = o } ∷ vs) (with_truth_value o x e more) (suc place) ≡ truth_bits vs more place
later_truth Zero x vs e place more = refl
later_truth One x vs e place more = refl
later_truth Two x vs e place more = refl

pub truth_bit : (vs : List Variable) (e : Env) (place : ℕ) (v : Variable) → slice_get vs place ≡ Some v → truth_bits vs (truth_values_of vs e) place ≡ truth_of v.order v.name e
truth_bit [] e place v there = absurd (none-some v there)
truth_bit (first ∷ vs) e zero v there = first_truth first.order first.name vs e ∙ ap (λ (u : Variable). truth_of u.order u.name e) (same_Some first v there)
truth_bit (first ∷ vs) e (suc place) v there = later_truth first.order first.name vs e place (truth_values_of vs e) ∙ truth_bit vs e place v there

-- the bits of the first three tracks
pub bit_at-track_bits : (bits : Bits) (track : ℕ) → track < 3 → bit_at (track_bits bits) track ≡ bits track
bit_at-track_bits bits zero small = refl
bit_at-track_bits bits (suc zero) small = refl
bit_at-track_bits bits (suc (suc zero)) small = refl
bit_at-track_bits bits (suc (suc (suc track))) small = absurd (omega (arith, small))

module _ (tracks : List Variable) (e : Env) (rising : AreRising tracks) (few : length tracks ≤ 3) where
  -- the variable of an operand stands at its track
  stands : (v : Variable) → IsAmong tracks v → (slice_get tracks (place_of v.name tracks) ≡ Some v) × (place_of v.name tracks < 3)
  stands v among =
      let there = place_of-among tracks v rising among in
      let within = slice_get_within tracks (place_of v.name tracks) v there in
      (there, omega (arith, within, few))

  operand_bit-read : (operands : List Variable) (operand position : ℕ) → ((v : Variable) → IsAmong operands v → IsAmong tracks v)
      → bit_at (track_bits (letter_bits tracks (letter_at tracks e position))) (track_at operands tracks operand) ≡ operand_bit operands operand e position
  operand_bit-read [] operand position among = refl
  operand_bit-read (v ∷ vs) zero position among =
      let found = stands v (among v (inl refl)) in
      bit_at-track_bits (letter_bits tracks (letter_at tracks e position)) (place_of v.name tracks) found.1
      ∙ letter_bit tracks e position (place_of v.name tracks) v found.0
  operand_bit-read (v ∷ vs) (suc operand) position among = operand_bit-read vs operand position (λ u there. among u (inr there))

  operand_truth-read : (operands : List Variable) (operand : ℕ) → ((v : Variable) → IsAmong operands v → IsAmong tracks v)
      → bit_at (track_bits (truth_bits tracks (truth_values_of tracks e))) (track_at operands tracks operand) ≡ operand_truth operands operand e
  operand_truth-read [] operand among = refl
  operand_truth-read (v ∷ vs) zero among =
      let found = stands v (among v (inl refl)) in
      bit_at-track_bits (truth_bits tracks (truth_values_of tracks e)) (place_of v.name tracks) found.1
      ∙ truth_bit tracks e (place_of v.name tracks) v found.0
  operand_truth-read (v ∷ vs) (suc operand) among = operand_truth-read vs operand (λ u there. among u (inr there))

  module _ (operands : List Variable) (among : (v : Variable) → IsAmong operands v → IsAmong tracks v) where
    bits_read : (position : ℕ) → read_at (wiring_of operands tracks) (track_bits (letter_bits tracks (letter_at tracks e position))) ≡ operand_bits operands e position
    bits_read position = λ i. record {
      first = operand_bit-read operands 0 position among i;
      second = operand_bit-read operands 1 position among i;
      third = operand_bit-read operands 2 position among i;
    }

    truth_read : read_at (wiring_of operands tracks) (track_bits (truth_bits tracks (truth_values_of tracks e))) ≡ operand_truths operands e
    truth_read = λ i. record {
      first = operand_truth-read operands 0 among i;
      second = operand_truth-read operands 1 among i;
      third = operand_truth-read operands 2 among i;
    }

    -- a word that encodes the assignment ends in the state behind its positions
    pub state_at_end : (table : TransitionTable) (word : Word) → Encodes tracks word e
        → end_of (machine_of (wired (wiring_of operands tracks) table) tracks) word ≡ state_behind table operands e (length word.letters)
    state_at_end table word encodes =
        scanned (machine_of (wired (wiring_of operands tracks) table) tracks) tracks e (length word.letters) (λ position state. state ≡ state_behind table operands e position) scan word encodes refl
      where
        scan : IsScan (machine_of (wired (wiring_of operands tracks) table) tracks) tracks e (length word.letters) (λ position state. state ≡ state_behind table operands e position)
        scan = record {
          start = ap table.start truth_read;
          next = λ position state below holds.
              ap (table.step state) (bits_read position) ∙ ap (λ s. table.step s (operand_bits operands e position)) holds;
        }

-- the track of an operand by its place
pub track_at-at : (operands tracks : List Variable) (operand : ℕ) (v : Variable) → slice_get operands operand ≡ Some v → track_at operands tracks operand ≡ place_of v.name tracks
track_at-at [] tracks operand v there = absurd (none-some v there)
track_at-at (first ∷ vs) tracks zero v there = ap (λ (u : Variable). place_of u.name tracks) (same_Some first v there)
track_at-at (first ∷ vs) tracks (suc operand) v there = track_at-at vs tracks operand v there

-- and by the list of tracks
pub track_at-in : (operands : List Track) (tracks : List Variable) (operand : ℕ) (other : Track) → operand < length operands
    → track_at (variables_of operands) tracks operand ≡ place_of (get_or operands operand other).variable tracks
track_at-in [] tracks operand other within = absurd (omega (arith, within))
track_at-in (first ∷ more) tracks zero other within = refl
track_at-in (first ∷ more) tracks (suc operand) other within = track_at-in more tracks operand other (omega (arith, within))

pub track_at-past : (operands : List Track) (tracks : List Variable) (operand : ℕ) → length operands ≤ operand → track_at (variables_of operands) tracks operand ≡ 3
track_at-past [] tracks operand past = refl
track_at-past (first ∷ more) tracks zero past = absurd (omega (arith, past))
track_at-past (first ∷ more) tracks (suc operand) past = track_at-past more tracks operand (omega (arith, past))

-- a variable stands within a list, or past its end
pub place_of-most : (name : ℕ) (vs : List Variable) → place_of name vs ≤ length vs
place_of-most name [] = omega arith
place_of-most name (v ∷ vs) =
    let others = place_of-most name vs in
    elim (nat_eq v.name name) as (λ test. (if test then 0 else suc (place_of name vs)) ≤ length (v ∷ vs)) [ true ↦ omega arith | false ↦ omega (arith, others) ]

-- what is kept by the start and by each position is true behind all of them
pub kept : (table : TransitionTable) (operands : List Variable) (e : Env) (count : ℕ) (IsAt : ℕ → ℕ → Type 0) → IsAt 0 (table.start (operand_truths operands e))
    → ((position state : ℕ) → IsAt position state → IsAt (suc position) (table.step state (operand_bits operands e position)))
    → IsAt count (state_behind table operands e count)
kept table operands e zero IsAt start next = start
kept table operands e (suc count) IsAt start next = next count (state_behind table operands e count) (kept table operands e count IsAt start next)
