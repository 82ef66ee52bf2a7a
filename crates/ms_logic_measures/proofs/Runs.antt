-- Runs of words one after the other, and the values of P sub Q and of `true` on them.
use Rattle.std.proofs.Common.{◌≡◌, ℕ, Bool, true, false, cond, ◌&&◌, List, [], ◌∷◌, ◌++◌, slice_index_or, refl, sym, ◌∙◌, ap, ap₂}
use Rattle.std.specs.List.{list_all}
use Rattle.ms_list.specs.declared.word.Word.{Word}
use Rattle.ms_logic_words.specs.declared.sign.Sign.{Sign}
use Rattle.ms_logic_words.specs.declared.sign.Sign.TheVariants as sign
use Rattle.ms_logic.specs.declared.mode.Mode.TheVariants.{Ws1s}
use Rattle.ms_logic_core.specs.declared.core_formula.Basic.TheVariants.{Sub}
use Rattle.ms_logic.specs.Assignment.{Env, IsAssignment}
use Rattle.ms_logic_words.specs.Content.{Content, IsWordOver, AreLetters, state_after, next_state}
use Rattle.ms_logic_core.specs.CoreForm.{basic, truth}
use Rattle.ms_logic_words.specs.inner.Decoding.{decoded}
use Rattle.ms_logic.specs.inner.Examples.{set_P_and_Q}
use Rattle.ms_logic.specs.FiniteSet.{is_member}
use Rattle.ms_logic_measures.specs.FullContent.{HasValueOn}
use Rattle.ms_logic_words.specs.Word.{Encodes}
use Rattle.ms_logic_words.proofs.SubsetWords.{is_within, decoded_P_and_Q, decoded_within}
use Rattle.ms_logic_words.proofs.WordLaws.{encoding_is_unique}

-- a run over two lists of letters goes on from the state after the first
pub state_after-append : {S : Type 0} (content : Content S) (s : ℕ) (one two : List (List Bool)) →
    state_after content s (one ++ two) ≡ state_after content (state_after content s one) two
state_after-append content s [] two = refl
state_after-append content s (letter ∷ one) two = state_after-append content (next_state content s letter) one two

pub letters-append : (one two : List (List Bool)) → AreLetters set_P_and_Q one → AreLetters set_P_and_Q two → AreLetters set_P_and_Q (one ++ two)
letters-append [] two are others = others
letters-append (letter ∷ one) two are others = (are.0, letters-append one two are.1 others)

-- P is within Q where it is within Q in both parts
pub is_within-append : (one two : List (List Bool)) → is_within (one ++ two) ≡ (is_within one && is_within two)
unfolding is_within
is_within-append [] two = refl
is_within-append (letter ∷ one) two = by_bits (slice_index_or letter 0 false) (slice_index_or letter 1 false) (is_within-append one two)
  where
    by_bits : (p q : Bool) → is_within (one ++ two) ≡ (is_within one && is_within two)
        → cond p (q && is_within (one ++ two)) (is_within (one ++ two)) ≡ (cond p (q && is_within one) (is_within one) && is_within two)
    by_bits true true others = others
    by_bits true false others = refl
    by_bits false q others = others

abbrev pub sign_when : Bool → Sign
sign_when true = sign.Yes
sign_when false = sign.No

-- at an assignment that the word encodes, P is a subset of Q where it is within Q in the word
subset_at : (w : Word) → IsWordOver set_P_and_Q w → (e : Env) → IsAssignment Ws1s set_P_and_Q e → Encodes set_P_and_Q w e →
    list_all (λ n. is_member n (e.set 1)) (e.set 0) ≡ is_within w.letters
subset_at w over e is_assignment encodes =
    let encoded = decoded_P_and_Q w over in
    let same = (encoding_is_unique Ws1s set_P_and_Q w e (decoded Ws1s set_P_and_Q w) is_assignment encoded.0 encodes encoded.1).1 in
    let same_P : e.set 0 ≡ (decoded Ws1s set_P_and_Q w).set 0 = cc (same.0) in
    let same_Q : e.set 1 ≡ (decoded Ws1s set_P_and_Q w).set 1 = cc (same.1.0) in
    ap₂ (λ (P : List ℕ) (Q : List ℕ). list_all (λ n. is_member n Q) P) same_P same_Q ∙ decoded_within w

-- P sub Q has one value on each word
pub subset_value : (w : Word) → IsWordOver set_P_and_Q w → (value : Sign) → HasValueOn [] Ws1s set_P_and_Q (basic (Sub 0 1)) w value → value ≡ sign_when (is_within w.letters)
subset_value w over sign.Yes has = ap sign_when (sym has.3 ∙ subset_at w over has.0 has.1 has.2)
subset_value w over sign.No has = by_test (is_within w.letters) refl
  where
    by_test : (within : Bool) → is_within w.letters ≡ within → sign.No ≡ sign_when within
    by_test true is = absurd (has.3 (subset_at w over has.0 has.1 has.2 ∙ is))
    by_test false is = refl
subset_value w over sign.Undefined has = absurd (has.3.1 has.3.0)
subset_value w over sign.Outside outside = let encoded = decoded_P_and_Q w over in absurd (outside (decoded Ws1s set_P_and_Q w, encoded.0, encoded.1))

-- and so has `true`
pub true_value : (w : Word) → IsWordOver set_P_and_Q w → (value : Sign) → HasValueOn [] Ws1s set_P_and_Q truth w value → value ≡ sign.Yes
true_value w over sign.Yes has = refl
true_value w over sign.No has = absurd has.3
true_value w over sign.Undefined has = absurd (has.3.0 tt)
true_value w over sign.Outside outside = let encoded = decoded_P_and_Q w over in absurd (outside (decoded Ws1s set_P_and_Q w, encoded.0, encoded.1))
