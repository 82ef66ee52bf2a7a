-- A word encodes an assignment exactly where each number has one 1.
use Rattle.std.proofs.Common.{◌≡◌, ℕ, zero, suc, ◌+◌, ◌↔◌, Bool, true, false, if◌then◌else◌, List, [], ◌∷◌, ◌++◌, length, map, drop, slice_get, slice_index_or, Some, refl, sym, ap, ◌∙◌, arith}
use Rattle.std.specs.List.{filter, range_with_len}
use Rattle.std.proofs.lemmas.Option.{none-some, same_Some}
use Rattle.ms_list.specs.declared.word.Word.{Word}
use Rattle.ms_logic.specs.declared.mode.Mode.{Mode}
use Rattle.ms_logic.specs.declared.mode.Order.{Order}
use Rattle.ms_logic.specs.declared.mode.Order.TheVariants.{Zero, One, Two}
use Rattle.ms_logic.specs.Assignment.{Variable}
use Rattle.ms_logic.specs.Lists.{AreRising}
use Rattle.ms_logic_words.specs.Content.{IsWordOver, head_bit, is_in_letters, letter_bits, padded, tail_bits}
use Rattle.ms_logic_words.specs.Word.{IsEncoding}
use Rattle.ms_logic_words.specs.inner.Decoding.{HasOneBit, HaveOneBit, bit_in, column_after, positions_of}
use Rattle.ms_logic_words.proofs.DecodedWords.{encodings_are}
use Rattle.ms_dfafile_outside.specs.inner.Numbers.{IsNumberAt, one_if}
use Rattle.ms_dfafile_outside.specs.inner.Labels.{ones, ones_at}

-- tests that agree count the same
pub ones-same : (one other : List Bool → Bool) (letters : List (List Bool)) → ((letter : List Bool) → one letter ≡ other letter) → ones one letters ≡ ones other letters
ones-same one other [] same = refl
ones-same one other (letter ∷ letters) same =
    ap (λ bit. one_if bit + ones one letters) (same letter) ∙ ap (λ n. one_if (other letter) + n) (ones-same one other letters same)

-- one letter more
pub ones-append : (has_bit : List Bool → Bool) (letters : List (List Bool)) (letter : List Bool) → ones has_bit (letters ++ letter ∷ []) ≡ ones has_bit letters + one_if (has_bit letter)
ones-append has_bit [] letter = omega arith
ones-append has_bit (first ∷ letters) letter = let rest = ones-append has_bit letters letter in omega (arith, rest)

-- a range that begins one later has as many numbers that pass a test of the number before
length-item : (test : Bool) (one other : ℕ) (first second : List ℕ) → length first ≡ length second
    → length (if test then one ∷ first else first) ≡ length (if test then other ∷ second else second)
length-item true one other first second same = omega (arith, same)
length-item false one other first second same = same

later_range : (test : ℕ → Bool) (start count : ℕ) → length (filter test (range_with_len (start + 1) count)) ≡ length (filter (λ p. test (suc p)) (range_with_len start count))
later_range test start zero = refl
later_range test start (suc count) =
    let same : start + 1 ≡ suc start = omega arith in
    ap (λ k. length (if test k then (start + 1) ∷ filter test (range_with_len (start + 1 + 1) count) else filter test (range_with_len (start + 1 + 1) count))) same
    ∙ length-item (test (suc start)) (start + 1) start (filter test (range_with_len (start + 1 + 1) count)) (filter (λ p. test (suc p)) (range_with_len (start + 1) count))
    (later_range test (start + 1) count)

-- the bit of a letter in a column
abbrev column_bit : ℕ → List Bool → Bool
column_bit column letter = slice_index_or letter column false

-- a column has as many positions as letters with its bit
length-positions : (column : ℕ) (letters : List (List Bool)) → length (positions_of letters column) ≡ ones (column_bit column) letters
length-positions column [] = refl
length-positions column (letter ∷ letters) =
    let others : length (filter (bit_in (letter ∷ letters) column) (range_with_len 1 (length letters))) ≡ ones (column_bit column) letters
    = later_range (bit_in (letter ∷ letters) column) 0 (length letters) ∙ length-positions column letters in
    elim (column_bit column letter) as (λ test. length (if test then 0 ∷ filter (bit_in (letter ∷ letters) column) (range_with_len 1 (length letters))
    else filter (bit_in (letter ∷ letters) column) (range_with_len 1 (length letters))) ≡ one_if test + ones (column_bit column) letters) [
      | true ↦ omega (arith, others)
      | false ↦ omega (arith, others)
    ]

-- a letter from a column on
head-drop : (letter : List Bool) (column : ℕ) → head_bit (drop column letter) ≡ column_bit column letter
head-drop [] zero = refl
head-drop [] (suc column) = refl
head-drop (bit ∷ letter) zero = refl
head-drop (bit ∷ letter) (suc column) = head-drop letter column

tail-drop : (letter : List Bool) (column : ℕ) → tail_bits (drop column letter) ≡ drop (column + 1) letter
tail-drop letter column = let next : column + 1 ≡ suc column = omega arith in by_suc letter column ∙ ap (λ k. drop k letter) (sym next)
  where
    by_suc : (l : List Bool) (k : ℕ) → tail_bits (drop k l) ≡ drop (suc k) l
    by_suc [] zero = refl
    by_suc [] (suc k) = refl
    by_suc (bit ∷ l) zero = refl
    by_suc (bit ∷ l) (suc k) = by_suc l k

-- the bits of the variables behind the first
bits-behind : (o : Order) (vs : List Variable) (letter : List Bool) (column place : ℕ)
    → slice_index_or (if is_in_letters o then head_bit (drop column letter) ∷ padded is_in_letters vs (tail_bits (drop column letter)) else false ∷ padded is_in_letters vs (drop column letter)) (suc place) false
    ≡ letter_bits vs (drop (column_after o column) letter) place
bits-behind Zero vs letter column place = refl
bits-behind One vs letter column place = ap (λ l. letter_bits vs l place) (tail-drop letter column)
bits-behind Two vs letter column place = ap (λ l. letter_bits vs l place) (tail-drop letter column)

-- and that of the first, if it is a number
bit-first : (o : Order) (vs : List Variable) (letter : List Bool) (column : ℕ) → o ≡ One
    → slice_index_or (if is_in_letters o then head_bit (drop column letter) ∷ padded is_in_letters vs (tail_bits (drop column letter)) else false ∷ padded is_in_letters vs (drop column letter)) 0 false
    ≡ column_bit column letter
bit-first Zero vs letter column is = let never : ⊥ = cc in absurd never
bit-first One vs letter column is = head-drop letter column
bit-first Two vs letter column is = let never : ⊥ = cc in absurd never

-- each number of a list, the first of which has its column there, has one 1
abbrev HaveOnes : List (List Bool) → ℕ → List Variable → Type 0
HaveOnes letters column vs = (place : ℕ) (v : Variable) → slice_get vs place ≡ Some v → v.order ≡ One → ones (λ letter. letter_bits vs (drop column letter) place) letters ≡ 1

module _ (letters : List (List Bool)) where
  first-bit : (o : Order) (column : ℕ) → (o ≡ One → ones (column_bit column) letters ≡ 1) → HasOneBit letters o column
  first-bit Zero column one = tt
  first-bit One column one = length-positions column letters ∙ one refl
  first-bit Two column one = tt

  first-one : (o : Order) (column : ℕ) → o ≡ One → HasOneBit letters o column → ones (column_bit column) letters ≡ 1
  first-one Zero column is has = let never : ⊥ = cc in absurd never
  first-one One column is has = sym (length-positions column letters) ∙ has
  first-one Two column is has = let never : ⊥ = cc in absurd never

  one_bits-from : (column : ℕ) (vs : List Variable) → HaveOnes letters column vs → HaveOneBit letters column vs
  one_bits-from column [] have = tt
  one_bits-from column (v ∷ vs) have = (
    first-bit v.order column (λ is. sym (ones-same (λ letter. letter_bits (v ∷ vs) (drop column letter) 0) (column_bit column) letters (λ letter. bit-first v.order vs letter column is)) ∙ have 0 v refl is),
    one_bits-from (column_after v.order column) vs (λ place w there is.
        sym (ones-same (λ letter. letter_bits (v ∷ vs) (drop column letter) (suc place)) (λ letter. letter_bits vs (drop (column_after v.order column) letter) place) letters
        (λ letter. bits-behind v.order vs letter column place)) ∙ have (suc place) w there is),
  )

  one_bits-to : (column : ℕ) (vs : List Variable) → HaveOneBit letters column vs → HaveOnes letters column vs
  one_bits-to column [] have place v there is = absurd (none-some v there)
  one_bits-to column (v ∷ vs) have zero w there is =
      let own : v.order ≡ One = ap (λ (u : Variable). u.order) (same_Some v w there) ∙ is in
      ones-same (λ letter. letter_bits (v ∷ vs) (drop column letter) 0) (column_bit column) letters (λ letter. bit-first v.order vs letter column own) ∙ first-one v.order column own have.0
  one_bits-to column (v ∷ vs) have (suc place) w there is =
      ones-same (λ letter. letter_bits (v ∷ vs) (drop column letter) (suc place)) (λ letter. letter_bits vs (drop (column_after v.order column) letter) place) letters
      (λ letter. bits-behind v.order vs letter column place)
      ∙ one_bits-to (column_after v.order column) vs have.1 place w there is

-- a number among variables, by their orders
pub number-variable : (vs : List Variable) (place : ℕ) → IsNumberAt (map (λ v. v.order) vs) place → (v : Variable) × (slice_get vs place ≡ Some v) × (v.order ≡ One)
number-variable [] place is = absurd (none-some One is)
number-variable (v ∷ vs) zero is = (v, refl, same_Some v.order One is)
number-variable (v ∷ vs) (suc place) is = number-variable vs place is

pub variable-number : (vs : List Variable) (place : ℕ) (v : Variable) → slice_get vs place ≡ Some v → v.order ≡ One → IsNumberAt (map (λ v. v.order) vs) place
variable-number [] place v there is = absurd (none-some v there)
variable-number (first ∷ vs) zero v there is = ap (λ (o : Order). Some o) (ap (λ (u : Variable). u.order) (same_Some first v there) ∙ is)
variable-number (first ∷ vs) (suc place) v there is = variable-number vs place v there is

-- the words that encode an assignment are those over the variables in which each number has one 1
pub encodes-ones : (mode : Mode) (vs : List Variable) (word : Word) → AreRising vs → IsWordOver vs word
    → IsEncoding mode vs word ↔ ((place : ℕ) → IsNumberAt (map (λ v. v.order) vs) place → ones_at vs word.letters place ≡ 1)
encodes-ones mode vs word rising over =
    let are = encodings_are mode vs word rising in (
      λ encoding place is. let v = number-variable vs place is in one_bits-to word.letters 0 vs (are.0 encoding).1 place v.0 v.1 v.2,
      λ each. are.1 (over, one_bits-from word.letters 0 vs (λ place v there is. each place (variable-number vs place v there is))),
    )
