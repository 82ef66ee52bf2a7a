-- The runs of the contents of P sub Q and of `true` over P and Q.
use Rattle.std.proofs.Common.{◌≡◌, ℕ, zero, suc, ◌<◌, Bool, true, false, cond, List, [], ◌∷◌, slice_get, Some, refl, sym, ◌∙◌, ap, subst, arith}
use Rattle.ms_arena.specs.declared.node.Ref.TheVariants.{Leaf}
use Rattle.ms_arena.specs.Diagram.{leaf_of}
use Rattle.ms_list.specs.declared.word.Word.{Word}
use Rattle.ms_logic_words.specs.declared.sign.Sign.{Sign}
use Rattle.ms_logic_words.specs.declared.sign.Sign.TheVariants as sign
use Rattle.ms_logic.specs.declared.mode.Mode.TheVariants.{Ws1s}
use Rattle.ms_logic_words.specs.inner.ContentExamples.{full_subset_content, encodings_content, word}
use Rattle.ms_logic_words.specs.Content.{StateOf, IsContent, NamesPart, IsWordOver, AreLetters, HasValueAt, is_in_letters, first_state, next_state, state_after, last_state, sign_at, sign_of}
use Rattle.ms_logic.specs.inner.Examples.{set_P_and_Q}
use Rattle.ms_logic_words.proofs.SubsetWords.{is_within}

-- the steps of P sub Q by one letter
from_first : (a b : Bool) → next_state full_subset_content 0 (a ∷ b ∷ []) ≡ cond a (cond b 0 1) 0
unfolding leaf_of
from_first true true = refl
from_first true false = refl
from_first false true = refl
from_first false false = refl

from_second : (letter : List Bool) → next_state full_subset_content 1 letter ≡ 1
unfolding leaf_of
from_second letter = refl

pub after_second : (letters : List (List Bool)) → state_after full_subset_content 1 letters ≡ 1
after_second [] = refl
after_second (letter ∷ letters) = ap (λ s. state_after full_subset_content s letters) (from_second letter) ∙ after_second letters

pub after_first : (letters : List (List Bool)) → AreLetters set_P_and_Q letters → state_after full_subset_content 0 letters ≡ cond (is_within letters) 0 1
unfolding is_within
after_first [] are = refl
after_first ([] ∷ letters) are = absurd (let short = are.0 in omega (arith, short))
after_first ((a ∷ []) ∷ letters) are = absurd (let short = are.0 in omega (arith, short))
after_first ((a ∷ b ∷ c ∷ more) ∷ letters) are = absurd (let long = are.0 in omega (arith, long))
after_first ((true ∷ true ∷ []) ∷ letters) are = ap (λ s. state_after full_subset_content s letters) (from_first true true) ∙ after_first letters are.1
after_first ((true ∷ false ∷ []) ∷ letters) are = ap (λ s. state_after full_subset_content s letters) (from_first true false) ∙ after_second letters
after_first ((false ∷ true ∷ []) ∷ letters) are = ap (λ s. state_after full_subset_content s letters) (from_first false true) ∙ after_first letters are.1
after_first ((false ∷ false ∷ []) ∷ letters) are = ap (λ s. state_after full_subset_content s letters) (from_first false false) ∙ after_first letters are.1

start_of_subset : (values : List Bool) → first_state full_subset_content values ≡ 0
unfolding leaf_of
start_of_subset values = refl

pub last_of_subset : (w : Word) → IsWordOver set_P_and_Q w → last_state full_subset_content w ≡ cond (is_within w.letters) 0 1
last_of_subset w over = ap (λ s. state_after full_subset_content s w.letters) (start_of_subset w.truth) ∙ after_first w.letters over.letters

-- the one state of the content of `true`
pub after_only : (letters : List (List Bool)) → state_after encodings_content 0 letters ≡ 0
unfolding leaf_of
after_only [] = refl
after_only (letter ∷ letters) = after_only letters

pub last_of_true : (w : Word) → last_state encodings_content w ≡ 0
unfolding leaf_of
last_of_true w = after_only w.letters
