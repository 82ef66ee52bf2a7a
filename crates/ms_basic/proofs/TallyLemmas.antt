-- A machine that tells of each number how often it has had a 1 tells which words encode assignments.
use Rattle.std.proofs.Common.{◌≡◌, ◌≢◌, ℕ, zero, suc, ◌+◌, ◌<◌, ◌≤◌, ◌⊎◌, inl, inr, ⊎_elim, Bool, true, false, if◌then◌else◌, List, [], ◌∷◌, length, map, slice_get, Some, refl, sym, ap, subst, ◌∙◌, arith}
use Rattle.std.specs.List.{filter, range_with_len}
use Rattle.std.proofs.lemmas.Option.{none-some, same_Some, slice_get_within}
use Rattle.ms_list.specs.declared.word.Word.{Word}
use Rattle.ms_logic.specs.declared.mode.Mode.{Mode}
use Rattle.ms_logic.specs.declared.mode.Order.TheVariants.{One}
use Rattle.ms_logic_words.specs.declared.sign.Sign.TheVariants.{Outside}
use Rattle.ms_logic.specs.Assignment.{Variable}
use Rattle.ms_logic_words.specs.Content.{AreLetters, IsWordOver, letter_bits, truth_bits}
use Rattle.ms_logic_words.specs.inner.Decoding.{bit_in, positions_of}
use Rattle.ms_logic.specs.Lists.{AreRising, IsAmong}
use Rattle.ms_logic_words.specs.Word.{IsEncoding}
use Rattle.ms_logic_words.proofs.DecodedWords.{encodings_are}
use Rattle.ms_dfa.specs.Machine.{after}
use Rattle.ms_dfa.specs.Narrow.{IsCovered, narrowed}
use Rattle.ms_dfa.proofs.CoveredLemmas.{covered_encodes}
use Rattle.ms_dfa_explore.specs.declared.small.TrackBits.{TrackBits}
use Rattle.ms_dfa_explore.specs.Small.{TransitionTable, bit_at, machine_of, sign_by, track_bits}
use Rattle.ms_basic.specs.Operands.{number}
use Rattle.ms_basic.specs.inner.Reading.{read_at, track_at, wired, wiring_of}
use Rattle.ms_basic.specs.inner.Tally.{HasTally, IsTally, OnNumber, OnNumbers}
use Rattle.ms_basic.proofs.DistinctLemmas.{among-at, at-among, place_of-at}
use Rattle.ms_basic.proofs.ReadingLemmas.{bit_at-track_bits, track_at-at}

-- how many letters have the bit
abbrev pub ones : (List Bool → Bool) → List (List Bool) → ℕ
ones has_bit [] = 0
ones has_bit (letter ∷ letters) = (if has_bit letter then 1 else 0) + ones has_bit letters

-- a range that begins one later has as many numbers that pass a test of the number before
length-item : (test : Bool) (one other : ℕ) (first second : List ℕ) → length first ≡ length second
    → length (if test then one ∷ first else first) ≡ length (if test then other ∷ second else second)
length-item true one other first second same = omega (arith, same)
length-item false one other first second same = same

later_range : (test : ℕ → Bool) (start count : ℕ) → length (filter test (range_with_len (start + 1) count)) ≡ length (filter (λ p. test (suc p)) (range_with_len start count))
later_range test start zero = refl
later_range test start (suc count) =
    let same : start + 1 ≡ suc start = omega arith in
    ap (λ k. length (if test k then (start + 1) ∷ filter test (range_with_len (start + 1 + 1) count) else filter test (range_with_len (start + 1 + 1) count))) same
    ∙ length-item (test (suc start)) (start + 1) start (filter test (range_with_len (start + 1 + 1) count)) (filter (λ p. test (suc p)) (range_with_len (start + 1) count))
    (later_range test (start + 1) count)

-- letters of one bit have as many ones as their only column has positions
length-column : (has_bit : List Bool → Bool) (letters : List (List Bool)) → length (positions_of (map (λ letter. has_bit letter ∷ []) letters) 0) ≡ ones has_bit letters
length-column has_bit [] = refl
length-column has_bit (letter ∷ letters) =
    let narrow = map (λ l. has_bit l ∷ []) letters in
    let others : length (filter (bit_in (map (λ l. has_bit l ∷ []) (letter ∷ letters)) 0) (range_with_len 1 (length narrow))) ≡ ones has_bit letters
    = later_range (bit_in (map (λ l. has_bit l ∷ []) (letter ∷ letters)) 0) 0 (length narrow) ∙ length-column has_bit letters in
    elim (has_bit letter) as (λ test. length (if test then 0 ∷ filter (bit_in (map (λ l. has_bit l ∷ []) (letter ∷ letters)) 0) (range_with_len 1 (length narrow))
    else filter (bit_in (map (λ l. has_bit l ∷ []) (letter ∷ letters)) 0) (range_with_len 1 (length narrow))) ≡ (if test then 1 else 0) + ones has_bit letters) [
      | true ↦ omega (arith, others)
      | false ↦ omega (arith, others)
    ]

-- letters of one bit are letters over one number
single_letters : (x : ℕ) (has_bit : List Bool → Bool) (letters : List (List Bool)) → AreLetters (number x ∷ []) (map (λ letter. has_bit letter ∷ []) letters)
single_letters x has_bit [] = tt
single_letters x has_bit (letter ∷ letters) = (refl, single_letters x has_bit letters)

-- a number whose track has exactly one 1 is covered
pub one_covers : (mode : Mode) (tracks : List Variable) (word : Word) (track : ℕ) → ones (λ letter. letter_bits tracks letter track) word.letters ≡ 1
    → IsCovered mode tracks word track
one_covers mode tracks word track one = record {
  map = track ∷ [];
  narrow = number 0 ∷ [];
  rising = (tt, tt);
  encoding = (encodings_are mode (number 0 ∷ []) (narrowed (track ∷ []) (number 0 ∷ []) tracks word) (tt, tt)).1 (
    record { truth = refl; letters = single_letters 0 (λ letter. letter_bits tracks letter track) word.letters },
    (length-column (λ letter. letter_bits tracks letter track) word.letters ∙ one, tt),
  );
  own = 0;
  variable = number 0;
  there = refl;
  number = refl;
  leads = refl;
}

module _ (table : TransitionTable) (tracks operands : List Variable) (operand : ℕ) (count : ℕ → ℕ) (tally : IsTally table operand count) where
  -- the machine over the tracks
  abbrev whole : TransitionTable
  whole = wired (wiring_of operands tracks) table

  abbrev bits_read : List Bool → TrackBits
  bits_read letter = read_at (wiring_of operands tracks) (track_bits (letter_bits tracks letter))

  -- the bit of the operand in a letter
  abbrev bit_read : List Bool → Bool
  bit_read letter = bit_at (bits_read letter) operand

  -- what is lost stays lost
  lost_after : (letters : List (List Bool)) → after (machine_of whole tracks) 0 letters ≡ 0
  lost_after [] = refl
  lost_after (letter ∷ letters) =
      ap (λ s. after (machine_of whole tracks) s letters) (tally.lost (bits_read letter)) ∙ lost_after letters

  -- behind letters the state is lost, or tells of their ones too
  tallied_after : (state : ℕ) (letters : List (List Bool))
      → (after (machine_of whole tracks) state letters ≡ 0)
      ⊎ (count (after (machine_of whole tracks) state letters) ≡ count state + ones bit_read letters)
  tallied_after state [] = inr (omega arith)
  tallied_after state (letter ∷ letters) =
      let bits = bits_read letter in
      ⊎_elim
      (λ lost. inl (ap (λ s. after (machine_of whole tracks) s letters) lost ∙ lost_after letters))
      (λ told. ⊎_elim (λ lost. inl lost) (λ all. inr (omega (arith, told, all))) (tallied_after (table.step state bits) letters))
      (tally.step state bits)

  -- a sign other than Outside tells of exactly one 1
  pub one_read : (word : Word) → sign_by whole tracks word ≢ Outside → ones bit_read word.letters ≡ 1
  one_read word inside =
      let bits = read_at (wiring_of operands tracks) (track_bits (truth_bits tracks word.truth)) in
      let first = table.start bits in
      let last = after (machine_of whole tracks) first word.letters in
      let told = tally.sign last inside in
      ⊎_elim (λ lost. absurd (told.0 lost)) (λ all. omega (arith, all, told.1, tally.start bits))
      (tallied_after first word.letters)

-- equal bits have as many ones
ones_same : (one other : List Bool → Bool) (letters : List (List Bool)) → ((letter : List Bool) → one letter ≡ other letter) → ones one letters ≡ ones other letters
ones_same one other [] same = refl
ones_same one other (letter ∷ letters) same =
    ap (λ bit. (if bit then 1 else 0) + ones one letters) (same letter) ∙ ap (λ n. (if other letter then 1 else 0) + n) (ones_same one other letters same)

-- a fact of each number among operands is one of the operand at a place
on_number : (Fact : ℕ → Type 0) (vs : List Variable) (operand : ℕ) (v : Variable) → OnNumbers Fact vs → slice_get vs operand ≡ Some v → v.order ≡ One → Fact operand
on_number Fact [] operand v facts there number = absurd (none-some v there)
on_number Fact (first ∷ vs) zero v facts there number =
    subst (λ o. OnNumber o (Fact 0)) (ap (λ (u : Variable). u.order) (same_Some first v there) ∙ number) facts.0
on_number Fact (first ∷ vs) (suc operand) v facts there number = on_number (λ k. Fact (suc k)) vs operand v facts.1 there number

-- the bits of the three operands are those of their tracks
bit_at-read : (operands tracks : List Variable) (letter : List Bool) (operand : ℕ) → operand < 3
    → bit_at (read_at (wiring_of operands tracks) (track_bits (letter_bits tracks letter))) operand ≡ bit_at (track_bits (letter_bits tracks letter)) (track_at operands tracks operand)
bit_at-read operands tracks letter zero small = refl
bit_at-read operands tracks letter (suc zero) small = refl
bit_at-read operands tracks letter (suc (suc zero)) small = refl
bit_at-read operands tracks letter (suc (suc (suc operand))) small = absurd (omega (arith, small))

-- a word with another sign than Outside encodes an assignment
pub inside_encodes : (mode : Mode) (table : TransitionTable) (tracks operands : List Variable) (word : Word) → AreRising tracks → length tracks ≤ 3 → length operands ≤ 3
    → ((v : Variable) → IsAmong tracks v → IsAmong operands v) → OnNumbers (HasTally table) operands → IsWordOver tracks word
    → sign_by (wired (wiring_of operands tracks) table) tracks word ≢ Outside → IsEncoding mode tracks word
inside_encodes mode table tracks operands word rising few_tracks few_operands among tallies over inside =
    covered_encodes mode tracks word rising over covered
  where
    covered : (track : ℕ) (v : Variable) → slice_get tracks track ≡ Some v → v.order ≡ One → IsCovered mode tracks word track
    covered track v there is_number =
        let found = at-among operands v (among v (among-at tracks track v there)) in
        let operand = found.0 in
        let within_operands = slice_get_within operands operand v found.1 in
        let within_tracks = slice_get_within tracks track v there in
        let small_operand : operand < 3 = omega (arith, within_operands, few_operands) in
        let small_track : track < 3 = omega (arith, within_tracks, few_tracks) in
        let tally = on_number (HasTally table) operands operand v tallies found.1 is_number in
        let at : track_at operands tracks operand ≡ track = track_at-at operands tracks operand v found.1 ∙ place_of-at tracks track v rising there in
        one_covers mode tracks word track
        (ones_same (λ letter. letter_bits tracks letter track) (λ letter. bit_at (read_at (wiring_of operands tracks) (track_bits (letter_bits tracks letter))) operand) word.letters
        (λ letter.
        sym (bit_at-read operands tracks letter operand small_operand ∙ ap (bit_at (track_bits (letter_bits tracks letter))) at
        ∙ bit_at-track_bits (letter_bits tracks letter) track small_track))
        ∙ one_read table tracks operands operand tally.0 tally.1 word inside)
