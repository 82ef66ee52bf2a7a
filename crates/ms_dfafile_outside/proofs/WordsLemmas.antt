-- A word with one letter more.
use Rattle.std.proofs.Common.{◌≡◌, ℕ, ◌+◌, ◌<◌, Bool, IsTrue, List, [], ◌∷◌, ◌++◌, length, refl, sym, ap, subst, ◌∙◌, arith}
use Rattle.std.proofs.lemmas.Option.{slice_get_within}
use Rattle.ms_arena.specs.Diagram.{Bits}
use Rattle.ms_dfa.proofs.GatheredLemmas.{gathered_at, length-gathered}
use Rattle.ms_dfa.specs.Narrow.{gathered}
use Rattle.ms_dfa.specs.declared.plain.FileSign.{FileSign}
use Rattle.ms_list.specs.declared.word.Word.{Word}
use Rattle.ms_logic.specs.declared.mode.Order.{Order}
use Rattle.ms_logic.specs.Assignment.{Variable}
use Rattle.ms_logic_words.specs.Content.{AreLetters, Content, IsWordOver, count_of, first_state, is_in_letters, last_state, letter_bits, next_state, state_after}
use Rattle.ms_dfafile_outside.specs.inner.Numbers.{IsNumberAt, one_if}
use Rattle.ms_dfafile_outside.specs.inner.Labels.{ones_at, orders_in}
use Rattle.ms_dfafile_outside.proofs.OnesLemmas.{number-variable, ones-append}

are_letters-append : (vs : List Variable) (letters : List (List Bool)) (letter : List Bool) → AreLetters vs letters → length letter ≡ count_of is_in_letters vs → AreLetters vs (letters ++ letter ∷ [])
are_letters-append vs [] letter are long = (long, tt)
are_letters-append vs (first ∷ letters) letter are long = (are.0, are_letters-append vs letters letter are.1 long)

module _ (content : Content FileSign) where
  -- the letter with these bits
  abbrev pub letter_for : Bits → List Bool
  letter_for bits = gathered is_in_letters 0 content.variables bits

  abbrev pub word_with : Word → Bits → Word
  word_with word bits = record { truth = word.truth; letters = word.letters ++ letter_for bits ∷ [] }

  pub over-with : (word : Word) (bits : Bits) → IsWordOver content.variables word → IsWordOver content.variables (word_with word bits)
  over-with word bits over = record {
    truth = over.truth;
    letters = are_letters-append content.variables word.letters (letter_for bits) over.letters (length-gathered is_in_letters content.variables bits 0);
  }

  after-append : (state : ℕ) (letters : List (List Bool)) (letter : List Bool) → state_after content state (letters ++ letter ∷ []) ≡ next_state content (state_after content state letters) letter
  after-append state [] letter = refl
  after-append state (first ∷ letters) letter = after-append (next_state content state first) letters letter

  pub last-with : (word : Word) (bits : Bits) → last_state content (word_with word bits) ≡ next_state content (last_state content word) (letter_for bits)
  last-with word bits = after-append (first_state content word.truth) word.letters (letter_for bits)

  bit-with : (bits : Bits) (place : ℕ) → IsNumberAt (orders_in content) place → letter_bits content.variables (letter_for bits) place ≡ bits place
  bit-with bits place is =
      let v = number-variable content.variables place is in
      let same : 0 + place ≡ place = omega arith in
      gathered_at is_in_letters content.variables bits 0 place v.0 v.1 (subst (λ (o : Order). IsTrue (is_in_letters o)) (sym v.2) refl) ∙ ap bits same

  pub ones-with : (word : Word) (bits : Bits) (place : ℕ) → IsNumberAt (orders_in content) place
      → ones_at content.variables (word_with word bits).letters place ≡ ones_at content.variables word.letters place + one_if (bits place)
  ones-with word bits place is =
      ones-append (λ letter. letter_bits content.variables letter place) word.letters (letter_for bits)
      ∙ ap (λ bit. ones_at content.variables word.letters place + one_if bit) (bit-with bits place is)

  -- a number stands among the variables
  pub number-within : (place : ℕ) → IsNumberAt (orders_in content) place → place < length content.variables
  number-within place is = let v = number-variable content.variables place is in slice_get_within content.variables place v.0 v.1
