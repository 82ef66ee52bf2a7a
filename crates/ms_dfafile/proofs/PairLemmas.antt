-- Two values whose texts stand one behind the other.
use Rattle.std.proofs.Common.{◌≡◌, ℕ, List, ◌++◌, Err, sym, ap, subst, ◌∙◌, append_assoc}
use Rattle.std.proofs.lemmas.List.{append_cancel_left}
use Rattle.ms_dfafile.specs.declared.fault.FileFault.{FileFault}
use Rattle.ms_dfafile.specs.declared.fault.FileFault.TheVariants as faults
use Rattle.ms_dfafile.specs.inner.Reading.{BeginsWith, BeginsWithNone, Finds, Gives, IsOneForm}
use Rattle.ms_dfafile.proofs.ReadingLemmas.{same_front}

module _ {X Y : Type 0} (text : X → List ℕ) (Fits : X → Type 0) (more : Y → List ℕ) (Suits : Y → Type 0) where
  abbrev pub pair_text : X × Y → List ℕ
  pair_text pair = text pair.0 ++ more pair.1

  abbrev pub BothFit : X × Y → Type 0
  BothFit pair = Fits pair.0 × Suits pair.1

  -- a pair is found in one way
  pub pair-one_form : IsOneForm text Fits → IsOneForm more Suits → IsOneForm pair_text BothFit
  pair-one_form one_form other_form one two rest other fits_one fits_two same =
      let whole : text one.0 ++ (more one.1 ++ rest) ≡ text two.0 ++ (more two.1 ++ other) = sym (append_assoc (text one.0) (more one.1) rest) ∙ same ∙ append_assoc (text two.0) (more two.1) other in
      let first = one_form one.0 two.0 (more one.1 ++ rest) (more two.1 ++ other) fits_one.0 fits_two.0 whole in
      let behind = append_cancel_left (text two.0) _ _ (subst (λ x. text x ++ (more one.1 ++ rest) ≡ text two.0 ++ (more two.1 ++ other)) first whole) in
      let second = other_form one.1 two.1 rest other fits_one.1 fits_two.1 behind in
      λ i. (first i, second i)

  -- no pair is where there is no first value
  pub first_missing : (bytes : List ℕ) → BeginsWithNone text Fits bytes → BeginsWithNone pair_text BothFit bytes
  first_missing bytes none pair other fits same = none pair.0 (more pair.1 ++ other) fits.0 (same ∙ append_assoc (text pair.0) (more pair.1) other)

  -- nor where no second value stands behind the first
  pub second_missing : IsOneForm text Fits → (bytes : List ℕ) (x : X) (rest : List ℕ) → BeginsWith text Fits bytes x rest → BeginsWithNone more Suits rest → BeginsWithNone pair_text BothFit bytes
  second_missing one_form bytes x rest begins none pair other fits same =
      let told = same_front text Fits one_form bytes x pair.0 rest (more pair.1 ++ other) begins fits.0 (same ∙ append_assoc (text pair.0) (more pair.1) other) in
      none pair.1 other fits.1 told.1

  pub both_found : (bytes : List ℕ) (x : X) (rest : List ℕ) (y : Y) (after : List ℕ) → BeginsWith text Fits bytes x rest → BeginsWith more Suits rest y after → BeginsWith pair_text BothFit bytes (x, y) after
  both_found bytes x rest y after first second = record {
    fits = (first.fits, second.fits);
    parts = first.parts ∙ ap (λ (left : List ℕ). text x ++ left) second.parts ∙ sym (append_assoc (text x) (more y) after);
  }

  -- the same of texts to their end: no first value, no second one behind the first, and both
  pub first_missing-given : (bytes : List ℕ) → BeginsWithNone text Fits bytes → Gives pair_text BothFit bytes (Err faults.Text)
  first_missing-given bytes none pair fits same = none pair.0 (more pair.1) fits.0 same

  pub first_fault-given : (bytes : List ℕ) (fault : FileFault) → Finds text Fits bytes (Err fault) → Gives pair_text BothFit bytes (Err fault)
  first_fault-given bytes faults.Text none = first_missing-given bytes none
  first_fault-given bytes faults.Memory none = tt

  pub second_fault-given : IsOneForm text Fits → (bytes : List ℕ) (x : X) (rest : List ℕ) → BeginsWith text Fits bytes x rest → (fault : FileFault) → Gives more Suits rest (Err fault) → Gives pair_text BothFit bytes (Err fault)
  second_fault-given one_form bytes x rest begins faults.Text none =
      λ pair fits same. none pair.1 fits.1 (same_front text Fits one_form bytes x pair.0 rest (more pair.1) begins fits.0 same).1
  second_fault-given one_form bytes x rest begins faults.Memory none = tt

-- a word before a value
pub word-one_form : {X : Type 0} (word : List ℕ) (text : X → List ℕ) (Fits : X → Type 0) → IsOneForm text Fits → IsOneForm (λ x. word ++ text x) Fits
word-one_form word text Fits one_form one two rest other fits_one fits_two same =
    one_form one two rest other fits_one fits_two (append_cancel_left word _ _ (sym (append_assoc word (text one) rest) ∙ same ∙ append_assoc word (text two) other))
