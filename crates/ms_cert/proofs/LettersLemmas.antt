-- Bits and letters, one after the other.
use Rattle.std.proofs.Common.{◌≡◌, ℕ, Bool, true, false, List, [], ◌∷◌, ◌++◌, get_or, codes, refl, sym, ap, ◌∙◌, arith, append_assoc}
use Rattle.std.specs.List.{flat_map}
use Rattle.std.proofs.lemmas.List.{append-nil, append_cancel_left}
use Rattle.ms_cert.specs.Text.{bit_text, bits_text, letter_text, letters_text}
use Rattle.ms_cert.specs.inner.Reading.{AreLettersAt, IsLetter, IsNoLetter, Stops}

pub flat-push : {X : Type 0} (text : X → List ℕ) (xs : List X) (x : X) → flat_map text (xs ++ x ∷ []) ≡ flat_map text xs ++ text x
flat-push text [] x = append-nil (text x)
flat-push text (y ∷ xs) x = ap (λ (rest : List ℕ). text y ++ rest) (flat-push text xs x) ∙ sym (append_assoc (text y) (flat_map text xs) (text x))

-- one item more, and what stands behind it
pub flat-more : {X : Type 0} (text : X → List ℕ) (bytes : List ℕ) (xs : List X) (rest : List ℕ) (x : X) (after : List ℕ) → bytes ≡ flat_map text xs ++ rest → rest ≡ text x ++ after → bytes ≡ flat_map text (xs ++ x ∷ []) ++ after
flat-more text bytes xs rest x after parts begins =
    parts ∙ ap (λ (left : List ℕ). flat_map text xs ++ left) begins ∙ sym (append_assoc (flat_map text xs) (text x) after) ∙ ap (λ (front : List ℕ). front ++ after) (sym (flat-push text xs x))

first_byte : (one two : List ℕ) → one ≡ two → get_or one 0 0 ≡ get_or two 0 0
first_byte one two same = ap (λ (bytes : List ℕ). get_or bytes 0 0) same

-- bits in front of bytes that begin with no bit are found in one way
pub bits-one : (one two : List Bool) (rest other : List ℕ) → Stops rest → Stops other → bits_text one ++ rest ≡ bits_text two ++ other → (one ≡ two) × (rest ≡ other)
bits-one [] [] rest other stop stop_other same = (refl, same)
bits-one [] (b ∷ two) rest other stop stop_other same = absurd (stop b (bits_text two ++ other) (same ∙ append_assoc (bit_text b) (bits_text two) other))
bits-one (b ∷ one) [] rest other stop stop_other same = absurd (stop_other b (bits_text one ++ rest) (sym same ∙ append_assoc (bit_text b) (bits_text one) rest))
bits-one (true ∷ one) (true ∷ two) rest other stop stop_other same = let both = bits-one one two rest other stop stop_other (append_cancel_left (codes "1") _ _ same) in ((λ i. true ∷ both.0 i), both.1)
bits-one (false ∷ one) (false ∷ two) rest other stop stop_other same = let both = bits-one one two rest other stop stop_other (append_cancel_left (codes "0") _ _ same) in ((λ i. false ∷ both.0 i), both.1)
bits-one (true ∷ one) (false ∷ two) rest other stop stop_other same = absurd (omega (arith, first_byte _ _ same))
bits-one (false ∷ one) (true ∷ two) rest other stop stop_other same = absurd (omega (arith, first_byte _ _ same))

-- letters and a line feed begin with no bit
pub stops-letters : (letters : List (List Bool)) (behind : List ℕ) → Stops (letters_text letters ++ 10 ∷ behind)
stops-letters [] behind true rest same = omega (arith, first_byte _ _ same)
stops-letters [] behind false rest same = omega (arith, first_byte _ _ same)
stops-letters (letter ∷ letters) behind true rest same = omega (arith, first_byte _ _ same)
stops-letters (letter ∷ letters) behind false rest same = omega (arith, first_byte _ _ same)

letters-parts : (letter : List Bool) (letters : List (List Bool)) (rest : List ℕ) → letters_text (letter ∷ letters) ++ rest ≡ codes " l" ++ (bits_text letter ++ (letters_text letters ++ rest))
letters-parts letter letters rest =
    append_assoc (letter_text letter) (letters_text letters) rest ∙ append_assoc (codes " l") (bits_text letter) (letters_text letters ++ rest)

-- letters in front of a line feed are found in one way
pub letters-one : (one two : List (List Bool)) (rest other : List ℕ) → letters_text one ++ 10 ∷ rest ≡ letters_text two ++ 10 ∷ other → (one ≡ two) × (rest ≡ other)
letters-one [] [] rest other same = (refl, append_cancel_left (10 ∷ []) rest other same)
letters-one [] (letter ∷ two) rest other same = absurd (omega (arith, first_byte _ _ same))
letters-one (letter ∷ one) [] rest other same = absurd (omega (arith, first_byte _ _ same))
letters-one (letter ∷ one) (own ∷ two) rest other same =
    let whole = append_cancel_left (codes " l") _ _ (sym (letters-parts letter one (10 ∷ rest)) ∙ same ∙ letters-parts own two (10 ∷ other)) in
    let first = bits-one letter own (letters_text one ++ 10 ∷ rest) (letters_text two ++ 10 ∷ other) (stops-letters one rest) (stops-letters two other) whole in
    let others = letters-one one two rest other first.1 in
    ((λ i. first.0 i ∷ others.0 i), others.1)

-- the letters so far, and how all letters up to a line feed go on behind them
pub record HasRead (bytes : List ℕ) (letters : List (List Bool)) (rest : List ℕ) : Type 0 where
  pub parts : bytes ≡ letters_text letters ++ rest
  pub only : (others : List (List Bool)) (behind : List ℕ) → bytes ≡ letters_text others ++ 10 ∷ behind → (more : List (List Bool)) × (others ≡ letters ++ more) × (rest ≡ letters_text more ++ 10 ∷ behind)

pub read-none : (bytes : List ℕ) → HasRead bytes [] bytes
read-none bytes = record { parts = refl; only = λ others behind same. (others, refl, same) }

pub read-more : (bytes : List ℕ) (letters : List (List Bool)) (rest : List ℕ) (letter : List Bool) (after : List ℕ) → HasRead bytes letters rest → IsLetter rest letter after → HasRead bytes (letters ++ letter ∷ []) after
read-more bytes letters rest letter after so_far is = record {
  parts = flat-more letter_text bytes letters rest letter after so_far.parts (is.begins ∙ ap (λ (left : List ℕ). codes " l" ++ left) is.bits.parts ∙ sym (append_assoc (codes " l") (bits_text letter) after));
  only = λ others behind same. let found = so_far.only others behind same in goes_on others behind found.0 found.1 found.2;
}
  where
    goes_on : (others : List (List Bool)) (behind : List ℕ) (more : List (List Bool)) → others ≡ letters ++ more → rest ≡ letters_text more ++ 10 ∷ behind
        → (left : List (List Bool)) × (others ≡ (letters ++ letter ∷ []) ++ left) × (after ≡ letters_text left ++ 10 ∷ behind)
    goes_on others behind [] all ends = absurd (omega (arith, first_byte _ _ (sym ends ∙ is.begins)))
    goes_on others behind (own ∷ more) all ends =
        let whole = append_cancel_left (codes " l") _ _ (sym is.begins ∙ ends ∙ letters-parts own more (10 ∷ behind)) in
        let first = bits-one letter own after (letters_text more ++ 10 ∷ behind) is.bits.stop (stops-letters more behind) (sym is.bits.parts ∙ whole) in
        (more, all ∙ ap (λ (l : List Bool). letters ++ l ∷ more) (sym first.0) ∙ sym (append_assoc letters (letter ∷ []) more), first.1)

pub read-all : (bytes : List ℕ) (letters : List (List Bool)) (rest : List ℕ) → HasRead bytes letters rest → IsNoLetter rest → AreLettersAt bytes letters rest
read-all bytes letters rest so_far none = record {
  parts = so_far.parts;
  only = λ others behind same. let found = so_far.only others behind same in ends others behind found.0 found.1 found.2;
}
  where
    ends : (others : List (List Bool)) (behind : List ℕ) (more : List (List Bool)) → others ≡ letters ++ more → rest ≡ letters_text more ++ 10 ∷ behind → (others ≡ letters) × (rest ≡ 10 ∷ behind)
    ends others behind [] all left = (all ∙ append-nil letters, left)
    ends others behind (own ∷ more) all left = absurd (none (bits_text own ++ (letters_text more ++ 10 ∷ behind)) (left ∙ letters-parts own more (10 ∷ behind)))
