-- A word encodes an assignment or none, and all words that encode one assignment have one sign.
use Rattle.std.proofs.Common.{◌≡◌, ℕ, zero, suc, ◌+◌, ◌-◌, ◌⊎◌, inl, inr, Bool, false, List, [], ◌∷◌, ◌++◌, length, Some, None, refl, sym, ap, subst, ◌∙◌, ⊎_elim, length-append, arith}
use Rattle.std.proofs.lemmas.Bool.{cases_eq, false≢true}
use Rattle.std.proofs.lemmas.List.{length-replicate}
use Rattle.ms_list.specs.declared.word.Word.{Word}
use Rattle.ms_logic.specs.declared.mode.Mode.{Mode}
use Rattle.ms_logic.specs.declared.mode.Mode.TheVariants.{Ws1s, M2lStr}
use Rattle.ms_logic.specs.declared.mode.Order.{Order}
use Rattle.ms_logic.specs.declared.mode.Order.TheVariants.{Zero, One, Two}
use Rattle.ms_logic_words.specs.declared.sign.Sign.{Sign}
use Rattle.ms_logic.specs.Assignment.{Universe, Env, Variable, IsAssignment, IsUniverseOf}
use Rattle.ms_logic_words.specs.Content.{AreLetters, Content, IsWordOver, count_of, is_in_letters, shortest_word, sign_of, with_zero_letter, zero_letter}
use Rattle.ms_logic_words.specs.inner.Decoding.{HasOneBit, HaveOneBit, column_after, positions_of}
use Rattle.ms_logic.specs.First.{length_of}
use Rattle.ms_logic.specs.Lists.{AreRising}
use Rattle.ms_logic_words.specs.Word.{Encodes, HasLength, IsEncoding}
use Rattle.ms_logic_words.specs.WordSign.{IsOutside, word_of}
use Rattle.ms_logic_words.proofs.DecodedWords.{encodings_are}
use Rattle.ms_logic_words.proofs.WordLaws.{encoding_is_over, length-letters_below, length_is_least, word_is_unique, zero_letter_keeps, encoding_exists}
use Rattle.ms_dfa.specs.Automaton.{IsAutomaton}
use Rattle.ms_dfa.specs.Values.{sign_at_values}

-- a column has exactly one 1, or it has not
one_bit_or_not : (letters : List (List Bool)) (order : Order) (column : ℕ) → HasOneBit letters order column ⊎ (¬ HasOneBit letters order column)
one_bit_or_not letters Zero column = inl tt
one_bit_or_not letters One column = cases_eq (length (positions_of letters column)) 1
one_bit_or_not letters Two column = inl tt

have_one_bit_or_not : (letters : List (List Bool)) (column : ℕ) (vs : List Variable) → HaveOneBit letters column vs ⊎ (¬ HaveOneBit letters column vs)
have_one_bit_or_not letters column [] = inl tt
have_one_bit_or_not letters column (v ∷ vs) = ⊎_elim
    (λ own. ⊎_elim (λ others. inl (own, others)) (λ not_others. inr (λ all. not_others all.1)) (have_one_bit_or_not letters (column_after v.order column) vs))
    (λ not_own. inr (λ all. not_own all.0))
    (one_bit_or_not letters v.order column)

-- a word over rising variables encodes an assignment, or it encodes none
pub encoding_or_not : (mode : Mode) (variables : List Variable) (word : Word) → AreRising variables → IsWordOver variables word
    → IsEncoding mode variables word ⊎ IsOutside mode variables word
encoding_or_not mode variables word rising over = ⊎_elim
    (λ one. inl ((encodings_are mode variables word rising).1 (over, one)))
    (λ not_one. inr (λ encoding. not_one ((encodings_are mode variables word rising).0 encoding).1))
    (have_one_bit_or_not word.letters 0 variables)

-- a zero letter has a bit for each variable
AreLetters-more : (variables : List Variable) (letters : List (List Bool)) → AreLetters variables letters → AreLetters variables (letters ++ zero_letter variables ∷ [])
AreLetters-more variables [] are = (length-replicate (count_of is_in_letters variables) false, tt)
AreLetters-more variables (letter ∷ letters) are = (are.0, AreLetters-more variables letters are.1)

-- a word with one zero letter more is one over the same variables
pub zero_letter_over : (variables : List Variable) (word : Word) → IsWordOver variables word → IsWordOver variables (with_zero_letter variables word)
zero_letter_over variables word over = record { truth = over.truth; letters = AreLetters-more variables word.letters over.letters }

-- in M2L-Str all words that encode an assignment have its length
string_length : (universe : Universe) (one other : ℕ) → IsUniverseOf M2lStr universe → HasLength universe one → HasLength universe other → one ≡ other
string_length None one other is first second = absurd (false≢true is)
string_length (Some size) one other is first second = first ∙ sym second

module _ (content : Content Sign) (automaton : IsAutomaton content) (e : Env) (assigned : IsAssignment content.mode content.variables e) where
  -- the shortest word encodes the assignment
  pub shortest : Encodes content.variables (shortest_word content.variables e) e
  shortest = (length_is_least content.mode content.variables e assigned).0

  length-shortest : length (shortest_word content.variables e).letters ≡ length_of content.variables e
  length-shortest = (length_is_least content.mode content.variables e assigned).1

  -- in WS1S a word that is longer by some letters has the sign of the shortest
  longer : content.mode ≡ Ws1s → (more : ℕ) (word : Word) → Encodes content.variables word e → length word.letters ≡ length_of content.variables e + more
      → sign_of content word ≡ sign_at_values content e
  longer numbers zero word encodes long =
      let same : length word.letters ≡ length (shortest_word content.variables e).letters = omega (arith, long, length-shortest) in
      ap (sign_of content) (word_is_unique content.variables word (shortest_word content.variables e) e encodes shortest same)
  longer numbers (suc more) word encodes long =
      let count = length_of content.variables e + more in
      let universe : e.universe ≡ None = subst (λ mode. IsUniverseOf mode e.universe) numbers assigned.universe in
      let before = word_of count content.variables e in
      let string : HasLength e.universe count = (let P : Universe → Type 0 = λ u. HasLength u count in subst P (sym universe) tt) in
      let is = encoding_exists content.variables e count (omega (arith, shortest.room, length-shortest)) string in
      let added = zero_letter_keeps content.variables before e universe is in
      let length_before : length before.letters ≡ count = length-letters_below count content.variables e in
      let same : length word.letters ≡ length (before.letters ++ zero_letter content.variables ∷ [])
      = omega (arith, long, length_before, length-append before.letters (zero_letter content.variables ∷ [])) in
      ap (sign_of content) (word_is_unique content.variables word (with_zero_letter content.variables before) e encodes added same)
      ∙ automaton.settled numbers before (encoding_is_over content.variables before e is) (e, subst (λ mode. IsAssignment mode content.variables e) numbers assigned, is)
      ∙ longer numbers more before is length_before

  -- any word that encodes an assignment has the sign of the automaton there
  pub sign_of_encoding : (word : Word) → Encodes content.variables word e → sign_of content word ≡ sign_at_values content e
  sign_of_encoding word encodes = by_mode content.mode refl
    where
      by_mode : (mode : Mode) → content.mode ≡ mode → sign_of content word ≡ sign_at_values content e
      by_mode Ws1s numbers =
          let least = (length_is_least content.mode content.variables e assigned).2 word encodes in
          longer numbers (length word.letters - length_of content.variables e) word encodes (omega (arith, least))
      by_mode M2lStr string =
          ap (sign_of content) (word_is_unique content.variables word (shortest_word content.variables e) e encodes shortest
          (string_length e.universe (length word.letters) (length (shortest_word content.variables e).letters)
          (subst (λ mode. IsUniverseOf mode e.universe) string assigned.universe) encodes.string shortest.string))
