-- Words over P and Q: what they are decoded to, and whether P is a subset of Q there.
use Rattle.std.proofs.Common.{◌≡◌, ℕ, suc, ◌+◌, ◌<◌, Bool, true, false, cond, ◌&&◌, List, [], ◌∷◌, length, slice_index_or, refl, sym, ◌∙◌, ap, arith}
use Rattle.std.specs.List.{filter, list_all, range_with_len}
use Rattle.ms_list.specs.declared.word.Word.{Word}
use Rattle.ms_logic.specs.declared.mode.Mode.TheVariants.{Ws1s}
use Rattle.ms_logic.specs.Assignment.{IsAssignment}
use Rattle.ms_logic_words.specs.Content.{IsWordOver}
use Rattle.ms_logic_words.specs.inner.Decoding.{bit_in, positions_of, decoded}
use Rattle.ms_logic.specs.inner.Examples.{set_P_and_Q}
use Rattle.ms_logic.specs.FiniteSet.{is_member}
use Rattle.ms_logic_words.specs.Word.{Encodes}
use Rattle.ms_logic_words.proofs.DecodedWords.{sets_encoded}
use Rattle.ms_logic_words.proofs.DecodingLemmas.{is_member-positions_of}

-- each word over P and Q encodes what it is decoded to
pub decoded_P_and_Q : (w : Word) → IsWordOver set_P_and_Q w → IsAssignment Ws1s set_P_and_Q (decoded Ws1s set_P_and_Q w) × Encodes set_P_and_Q w (decoded Ws1s set_P_and_Q w)
decoded_P_and_Q w over = sets_encoded Ws1s set_P_and_Q w (omega arith, (tt, tt)) (refl, (refl, tt)) over

-- no letter has the bit 1 for P and 0 for Q
unfoldable pub is_within : List (List Bool) → Bool
is_within [] = true
is_within (letter ∷ letters) = cond (slice_index_or letter 0 false) (slice_index_or letter 1 false && is_within letters) (is_within letters)

-- the numbers from a start on that have the bit for P are members, where the members are those with the bit for Q
within_from : (in_P in_Q : ℕ → Bool) (start : ℕ) (letters : List (List Bool))
    → ((p : ℕ) → p < length letters → in_P (start + p) ≡ bit_in letters 0 p) → ((p : ℕ) → p < length letters → in_Q (start + p) ≡ bit_in letters 1 p)
    → list_all in_Q (filter in_P (range_with_len start (length letters))) ≡ is_within letters
unfolding is_within
within_from in_P in_Q start [] is_P is_Q = refl
within_from in_P in_Q start (letter ∷ letters) is_P is_Q =
    let here : start + 0 ≡ start = omega arith in
    let P : in_P start ≡ slice_index_or letter 0 false = ap in_P (sym here) ∙ is_P 0 (omega arith) in
    let Q : in_Q start ≡ slice_index_or letter 1 false = ap in_Q (sym here) ∙ is_Q 0 (omega arith) in
    let others = within_from in_P in_Q (start + 1) letters
    (λ p below. let next : start + 1 + p ≡ start + (p + 1) = omega arith in ap in_P next ∙ is_P (p + 1) (omega (arith, below)) ∙ later letter letters 0 p)
    (λ p below. let next : start + 1 + p ≡ start + (p + 1) = omega arith in ap in_Q next ∙ is_Q (p + 1) (omega (arith, below)) ∙ later letter letters 1 p) in
    rw P (elim (slice_index_or letter 0 false) as (λ b. list_all in_Q (cond b (start ∷ filter in_P (range_with_len (start + 1) (length letters))) (filter in_P (range_with_len (start + 1) (length letters)))) ≡ cond b (slice_index_or letter 1 false && is_within letters) (is_within letters)) [
      | true ↦ ap (λ b. b && list_all in_Q (filter in_P (range_with_len (start + 1) (length letters)))) Q ∙ ap (λ b. slice_index_or letter 1 false && b) others
      | false ↦ others
    ])
  where
    later : (letter : List Bool) (letters : List (List Bool)) (column p : ℕ) → bit_in (letter ∷ letters) column (p + 1) ≡ bit_in letters column p
    later letter letters column p = let next : p + 1 ≡ suc p = omega arith in ap (λ k. bit_in (letter ∷ letters) column k) next

-- P is decoded to a subset of Q where no letter has the bit 1 for P and 0 for Q
pub decoded_within : (w : Word) →
    list_all (λ n. is_member n ((decoded Ws1s set_P_and_Q w).set 1)) ((decoded Ws1s set_P_and_Q w).set 0) ≡ is_within w.letters
decoded_within w =
    within_from (bit_in w.letters 0) (λ n. is_member n (positions_of w.letters 1)) 0 w.letters
    (λ p below. let same : 0 + p ≡ p = omega arith in ap (bit_in w.letters 0) same)
    (λ p below. let same : 0 + p ≡ p = omega arith in ap (λ n. is_member n (positions_of w.letters 1)) same ∙ is_member-positions_of w.letters 1 p below)
