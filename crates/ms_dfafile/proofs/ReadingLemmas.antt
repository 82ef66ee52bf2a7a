-- Values whose texts stand one behind the other.
use Rattle.std.proofs.Common.{◌≡◌, ℕ, ◌<◌, ◌≤◌, List, [], ◌∷◌, ◌++◌, length, Result, Ok, Err, refl, sym, ap, subst, ◌∙◌, arith, append_assoc, length-append}
use Rattle.std.specs.Borrow.{Bor}
use Rattle.std.specs.Fmt.{decimal}
use Rattle.std.specs.List.{AllByRecursion, flat_map}
use Rattle.std.proofs.lemmas.List.{append-nil, append_cancel_left, nil_from_length}
use Rattle.ms_dfafile.specs.declared.fault.FileFault.{FileFault}
use Rattle.ms_dfafile.specs.declared.fault.FileFault.TheVariants as faults
use Rattle.ms_dfafile.specs.inner.Reading.{AreLines, BeginsWith, BeginsWithNone, Finds, IsOneForm, IsSection, IsSmall, ended, section_text}
use Rattle.ms_dfafile.proofs.NumberLemmas.{number-one_form}

-- the value at the front and what stands behind it are found in one way
pub same_front : {X : Type 0} (text : X → List ℕ) (Fits : X → Type 0) → IsOneForm text Fits → (bytes : List ℕ) (x y : X) (rest other : List ℕ) → BeginsWith text Fits bytes x rest
    → Fits y → bytes ≡ text y ++ other → (x ≡ y) × (rest ≡ other)
same_front text Fits one_form bytes x y rest other begins fits parts =
    let both = sym begins.parts ∙ parts in
    let same = one_form x y rest other begins.fits fits both in
    (same, append_cancel_left (text y) rest other (subst (λ z. text z ++ rest ≡ text y ++ other) same both))

-- a fault tells that nothing is at the front where it is one of the text
pub Finds-fault : {X : Type 0} (text : X → List ℕ) (Fits : X → Type 0) (bytes : List ℕ) (fault : FileFault) → (fault ≡ faults.Text → BeginsWithNone text Fits bytes) → Finds text Fits bytes (Err fault)
Finds-fault text Fits bytes faults.Text none = none refl
Finds-fault text Fits bytes faults.Memory none = tt

-- the parts of a section
pub section-parts : {X : Type 0} (word : List ℕ) (text : X → List ℕ) (lines : List X) (rest : List ℕ)
    → section_text word text lines ++ rest ≡ word ++ (ended 10 (decimal (length lines)) ++ (flat_map text lines ++ rest))
section-parts word text lines rest =
    append_assoc word (ended 10 (decimal (length lines)) ++ flat_map text lines) rest
    ∙ ap (λ (bytes : List ℕ). word ++ bytes) (append_assoc (ended 10 (decimal (length lines))) (flat_map text lines) rest)

-- what stands behind the word of a section
pub section-behind : {X : Type 0} (word : List ℕ) (text : X → List ℕ) (lines : List X) (bytes behind rest : List ℕ) → bytes ≡ word ++ behind → bytes ≡ section_text word text lines ++ rest
    → behind ≡ ended 10 (decimal (length lines)) ++ (flat_map text lines ++ rest)
section-behind word text lines bytes behind rest parts same = append_cancel_left word _ _ (sym parts ∙ same ∙ section-parts word text lines rest)

-- lines one behind the other
module _ {X : Type 0} (text : X → List ℕ) (Fits : X → Type 0) (one_form : IsOneForm text Fits) where
  -- of two lists of lines in front of the same bytes the longer goes on where the shorter ends
  pub lines_go_on : (xs ys : List X) (rest other : List ℕ) → AllByRecursion Fits xs → AllByRecursion Fits ys → length xs ≤ length ys → flat_map text xs ++ rest ≡ flat_map text ys ++ other
      → (more : List X) × (ys ≡ xs ++ more) × AllByRecursion Fits more × (rest ≡ flat_map text more ++ other)
  lines_go_on [] ys rest other fits_xs fits_ys shorter same = (ys, refl, fits_ys, same)
  lines_go_on (x ∷ xs) [] rest other fits_xs fits_ys shorter same = absurd (omega arith)
  lines_go_on (x ∷ xs) (y ∷ ys) rest other fits_xs fits_ys shorter same =
      let both : text x ++ (flat_map text xs ++ rest) ≡ text y ++ (flat_map text ys ++ other) = sym (append_assoc (text x) (flat_map text xs) rest) ∙ same ∙ append_assoc (text y) (flat_map text ys) other in
      let first : x ≡ y = one_form x y (flat_map text xs ++ rest) (flat_map text ys ++ other) fits_xs.0 fits_ys.0 both in
      let behind : flat_map text xs ++ rest ≡ flat_map text ys ++ other = append_cancel_left (text y) _ _ (subst (λ z. text z ++ (flat_map text xs ++ rest) ≡ text y ++ (flat_map text ys ++ other)) first both) in
      let further = lines_go_on xs ys rest other fits_xs.1 fits_ys.1 (omega arith) behind in
      (further.0, (λ i. sym first i ∷ further.1 i), further.2, further.3)

  -- so many lines are found in one way
  pub lines-one_form : (count : ℕ) → IsOneForm (flat_map text) (AreLines Fits count)
  lines-one_form count xs ys rest other are_xs are_ys same =
      let further = lines_go_on xs ys rest other are_xs.1 are_ys.1 (omega (arith, are_xs.0, are_ys.0)) same in
      let none : length further.0 ≡ 0 = omega (arith, are_xs.0, are_ys.0, ap length further.1, length-append xs further.0) in
      sym (further.1 ∙ ap (λ (more : List X). xs ++ more) (nil_from_length further.0 none) ∙ append-nil xs)

  -- where too few lines stand at the front and no further one, so many do not
  pub line_missing : (count : ℕ) (bytes : List ℕ) (xs : List X) (rest : List ℕ) → length xs < count → AllByRecursion Fits xs → bytes ≡ flat_map text xs ++ rest → BeginsWithNone text Fits rest
      → BeginsWithNone (flat_map text) (AreLines Fits count) bytes
  line_missing count bytes xs rest few fits parts none ys other are_ys same =
      let further = lines_go_on xs ys rest other fits are_ys.1 (omega (arith, are_ys.0)) (sym parts ∙ same) in
      let some : 0 < length further.0 = omega (arith, are_ys.0, ap length further.1, length-append xs further.0) in
      elim further.0 as (λ (more : List X). 0 < length more → AllByRecursion Fits more → rest ≡ flat_map text more ++ other → ⊥) [
        | [] ↦ λ some fit behind. absurd (omega arith)
        | (y ∷ more) ↦ λ some fit behind. none y (flat_map text more ++ other) fit.0 (behind ∙ append_assoc (text y) (flat_map text more) other)
      ] some further.2 further.3

  -- a section is found in one way
  pub section-one_form : (word : List ℕ) → IsOneForm (section_text word text) (IsSection Fits)
  section-one_form word xs ys rest other are_xs are_ys same =
      let number = λ (zs : List X). ended 10 (decimal (length zs)) in
      let numbers = append_cancel_left word _ _ (sym (section-parts word text xs rest) ∙ same ∙ section-parts word text ys other) in
      let long : length xs ≡ length ys = number-one_form 10 refl (length xs) (length ys) _ _ are_xs.0 are_ys.0 numbers in
      let behind = append_cancel_left (number ys) _ _ (subst (λ (n : ℕ). ended 10 (decimal n) ++ (flat_map text xs ++ rest) ≡ number ys ++ (flat_map text ys ++ other)) long numbers) in
      lines-one_form (length ys) xs ys rest other (long, are_xs.1) (refl, are_ys.1) behind

  -- a section is found where its lines are, behind its word and their number
  pub section-found : (word bytes behind rest : List ℕ) (count : ℕ) → bytes ≡ word ++ behind → BeginsWith (λ n. ended 10 (decimal n)) IsSmall behind count rest
      → (r : Result (List X × Bor (List ℕ)) FileFault) → Finds (flat_map text) (AreLines Fits count) rest r → Finds (section_text word text) (IsSection Fits) bytes r
  section-found word bytes behind rest count parts number (Ok found) lines =
      let long = lines.fits.0 in
      record {
        fits = (subst IsSmall (sym long) number.fits, lines.fits.1);
        parts =
            parts ∙ ap (λ (left : List ℕ). word ++ left) (number.parts ∙ ap (λ (left : List ℕ). ended 10 (decimal count) ++ left) lines.parts
            ∙ ap (λ (n : ℕ). ended 10 (decimal n) ++ (flat_map text found.0 ++ found.1.now)) (sym long))
            ∙ sym (section-parts word text found.0 found.1.now);
      }
  section-found word bytes behind rest count parts number (Err faults.Text) none =
      λ xs other are same.
      let told = same_front (λ n. ended 10 (decimal n)) IsSmall (number-one_form 10 refl) behind count (length xs) rest (flat_map text xs ++ other) number are.0 (section-behind word text xs bytes behind other parts same) in
      none xs other (sym told.0, are.1) told.1
  section-found word bytes behind rest count parts number (Err faults.Memory) none = tt

-- lines that were read, and what is left
pub record HasRead {X : Type 0} (text : X → List ℕ) (Fits : X → Type 0) (bytes : List ℕ) (lines : List X) (rest : List ℕ) (count : ℕ) : Type 0 where
  pub long : length lines ≡ count
  pub fits : AllByRecursion Fits lines
  pub parts : bytes ≡ flat_map text lines ++ rest
