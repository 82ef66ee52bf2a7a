-- A zero letter at the end of a word changes no value of P sub Q.
use Rattle.std.proofs.Common.{◌≡◌, Bool, false, cond, ◌&&◌, List, [], ◌∷◌, ◌++◌, slice_index_or, refl, sym, ◌∙◌, ap}
use Rattle.ms_list.specs.declared.word.Word.{Word}
use Rattle.ms_logic_words.specs.inner.ContentExamples.{full_subset_content}
use Rattle.ms_logic_words.specs.Content.{IsOpen, IsWordOver, AreLetters, sign_of, sign_at, with_zero_letter}
use Rattle.ms_logic.specs.inner.Examples.{set_P_and_Q}
use Rattle.ms_logic_words.proofs.SubsetRuns.{last_of_subset}
use Rattle.ms_logic_words.proofs.SubsetWords.{is_within}
use Rattle.ms_logic_words.proofs.WordLaws.{encoding_is_over}

-- P is within Q with one position more that is in neither, where it was
is_within-zero : (letters : List (List Bool)) → is_within (letters ++ (false ∷ false ∷ []) ∷ []) ≡ is_within letters
unfolding is_within
is_within-zero [] = refl
is_within-zero (letter ∷ letters) =
    ap (λ b. cond (slice_index_or letter 0 false) (slice_index_or letter 1 false && b) b) (is_within-zero letters)

letters-zero : (letters : List (List Bool)) → AreLetters set_P_and_Q letters → AreLetters set_P_and_Q (letters ++ (false ∷ false ∷ []) ∷ [])
letters-zero [] are = (refl, tt)
letters-zero (letter ∷ letters) are = (are.0, letters-zero letters are.1)

-- a word has the same sign with a zero letter at its end
sign_of-zero : (w : Word) → IsWordOver set_P_and_Q w → sign_of full_subset_content w ≡ sign_of full_subset_content (with_zero_letter set_P_and_Q w)
sign_of-zero w over =
    ap (sign_at full_subset_content)
    (last_of_subset w over
    ∙ (ap (λ b. cond b 0 1) (sym (is_within-zero w.letters))
    ∙ sym (last_of_subset (with_zero_letter set_P_and_Q w) (record { truth = over.truth; letters = letters-zero w.letters over.letters }))))

pub subset_is_not_open : IsOpen full_subset_content → ⊥
subset_is_not_open opened =
    opened.changes (sign_of-zero opened.word (encoding_is_over set_P_and_Q opened.word opened.e opened.encodes))
