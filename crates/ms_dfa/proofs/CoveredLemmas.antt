-- A word encodes an assignment where each of its variables of order 1 is one of others over which it does.
use Rattle.std.proofs.Common.{◌≡◌, ℕ, zero, suc, ◌+◌, ◌<◌, ◌≤◌, Bool, false, IsTrue, if◌then◌else◌, List, [], ◌∷◌, length, take, get_or, slice_get, slice_index, slice_index_or, Some, refl, sym, ap, subst, ◌∙◌, arith}
use Rattle.std.specs.List.{filter, range_with_len}
use Rattle.std.proofs.lemmas.List.{length-map, get_or-map}
use Rattle.std.proofs.lemmas.List.Elements.{All-from_recursion}
use Rattle.std.proofs.lemmas.Option.{none-some, same_Some}
use Rattle.ms_list.specs.declared.word.Word.{Word}
use Rattle.ms_diagram.specs.Bring.{read_through}
use Rattle.ms_logic.specs.declared.mode.Mode.{Mode}
use Rattle.ms_logic.specs.declared.mode.Order.{Order}
use Rattle.ms_logic.specs.declared.mode.Order.TheVariants.{Zero, One, Two}
use Rattle.ms_logic.specs.Assignment.{Variable}
use Rattle.ms_logic_words.specs.Content.{IsWordOver, count_of, is_in_letters, letter_bits}
use Rattle.ms_logic_words.specs.inner.Decoding.{HasOneBit, HaveOneBit, column_after, bit_in, positions_of}
use Rattle.ms_logic.specs.FiniteSet.{numbers_below}
use Rattle.ms_logic.specs.Lists.{AreRising}
use Rattle.ms_logic_words.specs.Word.{IsEncoding}
use Rattle.ms_logic_words.proofs.DecodedWords.{encodings_are}
use Rattle.ms_dfa.proofs.Following.{stands_at}
use Rattle.ms_dfa.specs.Narrow.{narrowed_letter, narrowed, IsCovered}
use Rattle.ms_dfa.proofs.GatheredLemmas.{gathered_at, length-gathered}

-- the column of a place: as many columns stand before it as variables of order 1 and 2
abbrev pub column_at : List Variable → ℕ → ℕ
column_at vs place = count_of is_in_letters (take place vs)

column_behind : (o : Order) (column before : ℕ) → column + (if is_in_letters o then before + 1 else before) ≡ column_after o column + before
column_behind Zero column before = refl
column_behind One column before = omega arith
column_behind Two column before = omega arith

-- what is true of all columns is true of each, and the other way round
column_each : (letters : List (List Bool)) (column : ℕ) (vs : List Variable) (place : ℕ) (v : Variable) → slice_get vs place ≡ Some v → HaveOneBit letters column vs
    → HasOneBit letters v.order (column + column_at vs place)
column_each letters column [] place v there all = absurd (none-some v there)
column_each letters column (first ∷ vs) zero v there all =
    let here : column ≡ column + 0 = omega arith in
    subst (λ (u : Variable). HasOneBit letters u.order (column + 0)) (same_Some first v there) (subst (HasOneBit letters first.order) here all.0)
column_each letters column (first ∷ vs) (suc place) v there all =
    subst (HasOneBit letters v.order) (sym (column_behind first.order column (column_at vs place)))
    (column_each letters (column_after first.order column) vs place v there all.1)

column_all : (letters : List (List Bool)) (column : ℕ) (vs : List Variable)
    → ((place : ℕ) (v : Variable) → slice_get vs place ≡ Some v → HasOneBit letters v.order (column + column_at vs place)) → HaveOneBit letters column vs
column_all letters column [] each = tt
column_all letters column (v ∷ vs) each =
    let here : column + 0 ≡ column = omega arith in (
      subst (HasOneBit letters v.order) here (each 0 v refl),
      column_all letters (column_after v.order column) vs (λ place w there.
          subst (HasOneBit letters w.order) (column_behind v.order column (column_at vs place)) (each (suc place) w there)),
    )

-- tests that agree on a range pass the same numbers
filter_same : (one other : ℕ → Bool) (start count : ℕ) → ((p : ℕ) → start ≤ p → p < start + count → one p ≡ other p)
    → filter one (range_with_len start count) ≡ filter other (range_with_len start count)
filter_same one other start zero same = refl
filter_same one other start (suc count) same =
    let rest = filter_same one other (start + 1) count (λ p from below. same p (omega (arith, from)) (omega (arith, below))) in
    ap (λ bit. if bit then start ∷ filter one (range_with_len (start + 1) count) else filter one (range_with_len (start + 1) count)) (same start (omega arith) (omega arith))
    ∙ ap (λ list. if other start then start ∷ list else list) rest

module _ (map : List ℕ) (narrow wide : List Variable) (word : Word) (over : IsWordOver wide word) (place : ℕ) (v w : Variable)
    (there : slice_get narrow place ≡ Some v) (leads : slice_get wide (slice_index map place) ≡ Some w) (same : w.order ≡ v.order) (in_letters : IsTrue (is_in_letters v.order)) where
  abbrev letter_of : ℕ → List Bool
  letter_of p = get_or word.letters p []

  -- the bit of a letter in the column of the narrow variable is that in the column of the wide one
  same_bit : (p : ℕ) → p < length word.letters
      → bit_in (narrowed map narrow wide word).letters (column_at narrow place) p ≡ bit_in word.letters (column_at wide (slice_index map place)) p
  same_bit p below =
      let letter = letter_of p in
      let long : length letter ≡ count_of is_in_letters wide = All-from_recursion (λ (l : List Bool). length l ≡ count_of is_in_letters wide) word.letters over.letters p [] below in
      let narrow_letter = narrowed_letter map narrow wide letter in
      let here : 0 + place ≡ place = omega arith in
      ap (λ l. slice_index_or l (column_at narrow place) false) (get_or-map (narrowed_letter map narrow wide) word.letters p [] [] below)
      ∙ sym ((stands_at is_in_letters narrow narrow_letter place v there in_letters (length-gathered is_in_letters narrow (read_through map (letter_bits wide letter)) 0)).value)
      ∙ gathered_at is_in_letters narrow (read_through map (letter_bits wide letter)) 0 place v there in_letters
      ∙ ap (read_through map (letter_bits wide letter)) here
      ∙ (stands_at is_in_letters wide letter (slice_index map place) w leads (subst (λ o. IsTrue (is_in_letters o)) (sym same) in_letters) long).value

  -- so the positions of the narrow column are those of the wide one
  pub same_positions : positions_of (narrowed map narrow wide word).letters (column_at narrow place) ≡ positions_of word.letters (column_at wide (slice_index map place))
  same_positions =
      let long : length (narrowed map narrow wide word).letters ≡ length word.letters = length-map word.letters (narrowed_letter map narrow wide) in
      ap (λ n. filter (bit_in (narrowed map narrow wide word).letters (column_at narrow place)) (numbers_below n)) long
      ∙ filter_same (bit_in (narrowed map narrow wide word).letters (column_at narrow place)) (bit_in word.letters (column_at wide (slice_index map place))) 0 (length word.letters)
      (λ p from below. same_bit p (omega (arith, below)))

-- the column of a wide variable of order 1 that is covered has exactly one 1
covered_column : (mode : Mode) (wide : List Variable) (word : Word) (place : ℕ) (w : Variable) → IsWordOver wide word → slice_get wide place ≡ Some w → w.order ≡ One
    → IsCovered mode wide word place → HasOneBit word.letters One (column_at wide place)
covered_column mode wide word place w over there number covered =
    let one = ((encodings_are mode covered.narrow (narrowed covered.map covered.narrow wide word) covered.rising).0 covered.encoding).1 in
    let narrow_one = column_each (narrowed covered.map covered.narrow wide word).letters 0 covered.narrow covered.own covered.variable covered.there one in
    let here : 0 + column_at covered.narrow covered.own ≡ column_at covered.narrow covered.own = omega arith in
    let narrow_column : HasOneBit (narrowed covered.map covered.narrow wide word).letters One (column_at covered.narrow covered.own)
    = subst (HasOneBit (narrowed covered.map covered.narrow wide word).letters One) here (subst (λ o. HasOneBit (narrowed covered.map covered.narrow wide word).letters o (0 + column_at covered.narrow covered.own)) covered.number narrow_one) in
    let at : slice_get wide (slice_index covered.map covered.own) ≡ Some w = ap (slice_get wide) covered.leads ∙ there in
    let positions = same_positions covered.map covered.narrow wide word over covered.own covered.variable w covered.there at (number ∙ sym covered.number)
    (subst (λ o. IsTrue (is_in_letters o)) (sym covered.number) refl) in
    ap length (ap (λ p. positions_of word.letters (column_at wide p)) (sym covered.leads) ∙ sym positions) ∙ narrow_column

-- a word over rising variables encodes an assignment where each variable of order 1 is covered
pub covered_encodes : (mode : Mode) (wide : List Variable) (word : Word) → AreRising wide → IsWordOver wide word
    → ((place : ℕ) (w : Variable) → slice_get wide place ≡ Some w → w.order ≡ One → IsCovered mode wide word place) → IsEncoding mode wide word
covered_encodes mode wide word rising over covered =
    (encodings_are mode wide word rising).1 (over, column_all word.letters 0 wide (λ place w there. by_order place w there w.order refl))
  where
    by_order : (place : ℕ) (w : Variable) → slice_get wide place ≡ Some w → (o : Order) → w.order ≡ o → HasOneBit word.letters o (0 + column_at wide place)
    by_order place w there Zero is = tt
    by_order place w there One is =
        let here : column_at wide place ≡ 0 + column_at wide place = omega arith in
        subst (HasOneBit word.letters One) here (covered_column mode wide word place w over there is (covered place w there is))
    by_order place w there Two is = tt
