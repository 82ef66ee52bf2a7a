-- What the worked examples need.
use Rattle.std.proofs.Common.{◌≡◌, ℕ, ◌≤◌, Bool, true, false, List, [], ◌∷◌, length, slice_get, slice_index, Some, refl, sym, ap, arith}
use Rattle.std.proofs.lemmas.Option.{same_Some}
use Rattle.ms_list.specs.declared.word.Word.{Word}
use Rattle.ms_arena.specs.Diagram.{leaf_of}
use Rattle.ms_dfa.specs.Files.{content_of_file}
use Rattle.ms_dfa.specs.declared.plain.FileSign.{FileSign}
use Rattle.ms_dfa.specs.declared.plain.FileSign.TheVariants.{Plus}
use Rattle.ms_dfafile_outside.proofs.ShortLists.{at_three, at_two}
use Rattle.ms_dfafile.specs.inner.Examples.{subset}
use Rattle.ms_logic_words.specs.Content.{Content, IsWordOver, first_state, last_state, next_state, state_after}
use Rattle.ms_cert.specs.Certificate.{IsCertified, IsLineOver, branch, leaf}
use Rattle.ms_cert.specs.ShortestWords.{AreShortest}
use Rattle.ms_cert.specs.declared.cert.TreeLine.TheVariants.{At, By}
use Rattle.ms_cert.specs.inner.Examples.{cert, other_state, too_long, turned_round, word_with}
use Rattle.ms_cert.proofs.SeparationLemmas.{branch-to, each-apart, leaf-to}

abbrev content : Content FileSign
content = content_of_file subset

abbrev empty_word : Word
empty_word = word_with []

abbrev short_word : Word
short_word = word_with ((true ∷ false ∷ []) ∷ [])

at_words : (P : ℕ → Word → Type 0) → P 0 empty_word → P 1 short_word → (place : ℕ) (word : Word) → slice_get cert.words place ≡ Some word → P place word
at_words P one two = at_two P empty_word short_word one two

first_word : (truth : List Bool) (word : Word) → slice_get cert.words (first_state content truth) ≡ Some word → length word.letters ≡ 0
unfolding leaf_of
first_word truth word held = ap (λ (w : Word). length w.letters) (sym (same_Some empty_word word held))

ends_there : (state : ℕ) (word : Word) → slice_get cert.words state ≡ Some word → last_state content word ≡ state
unfolding leaf_of
ends_there = at_words (λ state word. last_state content word ≡ state) refl refl

pub certified : IsCertified subset cert
certified = record {
  words = record {
    count = refl;
    over = at_words (λ state word. IsWordOver content.variables word) (record { truth = refl; letters = tt }) (record { truth = refl; letters = (refl, tt) });
    ends = ends_there;
  };
  lengths = record {
    start = λ truth word long held. first_word truth word held;
    step = λ state letter word next long held held_next.
        let few : length next.letters ≤ 1 = at_words (λ place w. length w.letters ≤ 1) (omega arith) (omega arith) (next_state content state letter) next held_next in
        omega (arith, few);
  };
  letters = at_three (λ place line. IsLineOver content.variables line) (By Plus []) (At 0) (At 1) tt tt tt;
  tree = record { tree = branch Plus [] (leaf 0) (leaf 1); spelled = refl; separates = (refl, refl) };
}

-- the word ends in the first state
pub other_state-fails : ¬ IsCertified subset other_state
unfolding leaf_of
other_state-fails is = let ends : 0 ≡ 1 = is.words.ends 1 (word_with ((true ∷ true ∷ []) ∷ [])) refl in omega (arith, ends)

-- one letter leads to the second state
pub too_long-fails : ¬ IsCertified subset too_long
unfolding leaf_of
too_long-fails is =
    let few : 2 ≤ 1 = is.lengths.step 0 (true ∷ false ∷ []) empty_word (word_with ((false ∷ false ∷ []) ∷ (true ∷ false ∷ []) ∷ [])) refl refl refl in
    omega (arith, few)

-- the first state alone has the sign
pub turned_round-fails : ¬ IsCertified subset turned_round
turned_round-fails is =
    let each = branch-to content Plus [] (0 ∷ 1 ∷ []) [] (At 1 ∷ At 0 ∷ []) (each-apart content turned_round.tree is.tree) in
    let only : 0 ∷ [] ≡ 1 ∷ [] = (leaf-to content 1 (0 ∷ []) ((1 ∷ []) ∷ []) (At 0 ∷ []) each).0 in
    let first : 0 ≡ 1 = ap (λ (states : List ℕ). slice_index states 0) only in
    omega (arith, first)

-- no word without letters leads to the second state
some_letter : (other : Word) → last_state content other ≡ 1 → 1 ≤ length other.letters
unfolding leaf_of
some_letter other last = by other.letters last
  where
    by : (letters : List (List Bool)) → state_after content 0 letters ≡ 1 → 1 ≤ length letters
    by [] is = absurd (omega (arith, is))
    by (letter ∷ letters) is = omega arith

pub are_shortest : AreShortest content cert.words
are_shortest state word other held over last =
    at_words (λ place (w : Word). last_state content other ≡ place → length w.letters ≤ length other.letters) (λ at. omega arith) (λ at. some_letter other at) state word held last

-- the word of the certificate is shorter
pub too_long-not_shortest : ¬ AreShortest content too_long.words
unfolding leaf_of
too_long-not_shortest is =
    let few : 2 ≤ 1 = is 1 (word_with ((false ∷ false ∷ []) ∷ (true ∷ false ∷ []) ∷ [])) short_word refl (record { truth = refl; letters = (refl, tt) }) refl in
    omega (arith, few)
