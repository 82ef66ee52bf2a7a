-- From which classes others were split off.
use Rattle.std.proofs.Common.{◌≡◌, ◌≢◌, ◌⊎◌, ℕ, zero, suc, ◌+◌, ◌<◌, ◌≤◌, List, [], ◌∷◌, ◌++◌, length, max, slice_get, slice_index_or, Some, refl, sym, ap, subst, ◌∙◌, arith, inl, inr, ⊎_elim}
use Rattle.std.proofs.lemmas.Bool.{cases_eq}
use Rattle.std.proofs.lemmas.Option.{same_Some, slice_get-get_or}
use Rattle.ms_arena.proofs.Lists.{slice_get-append_left, slice_get-held}
use Rattle.ms_cert.specs.inner.Partition.{AreEarlier, IsParting, StemsFrom, StemsWithin}

-- a class up to the bound stems from itself
pub stems-here : (parents : List ℕ) (bound class : ℕ) → class ≤ bound → StemsFrom parents bound class class
stems-here parents bound class low = (0, (refl, low))

-- and from no other
pub stems-low : (parents : List ℕ) (bound class own : ℕ) → class ≤ bound → StemsFrom parents bound class own → class ≡ own
stems-low parents bound class own low stems = by stems.0 stems.1
  where
    by : (steps : ℕ) → StemsWithin steps parents bound class own → class ≡ own
    by zero is = is.0
    by (suc steps) (inl is) = is.0
    by (suc steps) (inr up) = let high = up.0 in absurd (omega (arith, high, low))

-- one above it stems from what its parent stems from
pub stems-parent : (parents : List ℕ) (bound class parent own : ℕ) → bound < class → slice_get parents class ≡ Some parent → StemsFrom parents bound class own → StemsFrom parents bound parent own
stems-parent parents bound class parent own high held stems = by stems.0 stems.1
  where
    by : (steps : ℕ) → StemsWithin steps parents bound class own → StemsFrom parents bound parent own
    by zero is = let low = is.1 in absurd (omega (arith, low, high))
    by (suc steps) (inl is) = let low = is.1 in absurd (omega (arith, low, high))
    by (suc steps) (inr up) = (steps, subst (λ (p : ℕ). StemsWithin steps parents bound p own) (same_Some up.1.0 parent (sym up.1.1 ∙ held)) up.1.2)

-- and what its parent stems from
pub stems-up : (parents : List ℕ) (bound class parent own : ℕ) → bound < class → slice_get parents class ≡ Some parent → StemsFrom parents bound parent own → StemsFrom parents bound class own
stems-up parents bound class parent own high held stems = (suc stems.0, inr (high, (parent, held, stems.1)))

-- the bound may be lowered as far as the class from which another stems
pub stems-lower : (parents : List ℕ) (bound less class own : ℕ) → own ≤ less → less ≤ bound → StemsFrom parents bound class own → StemsFrom parents less class own
stems-lower parents bound less class own low lower stems = (stems.0, by stems.0 class stems.1)
  where
    by : (steps class : ℕ) → StemsWithin steps parents bound class own → StemsWithin steps parents less class own
    by zero class is = let same = is.0 in (same, omega (arith, same, low))
    by (suc steps) class (inl is) = let same = is.0 in inl (same, omega (arith, same, low))
    by (suc steps) class (inr up) = let high = up.0 in inr (omega (arith, high, lower), (up.1.0, up.1.1, by steps up.1.0 up.1.2))

-- and further to its parent
pub stems-further : (parents : List ℕ) (bound less class own parent : ℕ) → less < own → less ≤ bound → slice_get parents own ≡ Some parent → parent ≤ less → StemsFrom parents bound class own → StemsFrom parents less class parent
stems-further parents bound less class own parent above lower held low stems = (suc stems.0, by stems.0 class stems.1)
  where
    last : (steps class : ℕ) → class ≡ own → StemsWithin (suc steps) parents less class parent
    last zero class same = inr (omega (arith, same, above), (parent, ap (slice_get parents) same ∙ held, (refl, low)))
    last (suc steps) class same = inr (omega (arith, same, above), (parent, ap (slice_get parents) same ∙ held, inl (refl, low)))

    by : (steps class : ℕ) → StemsWithin steps parents bound class own → StemsWithin (suc steps) parents less class parent
    by zero class is = last zero class is.0
    by (suc steps) class (inl is) = last (suc steps) class is.0
    by (suc steps) class (inr up) = let high = up.0 in inr (omega (arith, high, lower), (up.1.0, up.1.1, by steps up.1.0 up.1.2))

-- one class more changes nothing for the others
pub stems-old : (parents : List ℕ) (more bound class own : ℕ) → AreEarlier parents → class < length parents → StemsFrom (parents ++ more ∷ []) bound class own → StemsFrom parents bound class own
stems-old parents more bound class own earlier within stems = (stems.0, by stems.0 class within stems.1)
  where
    by : (steps class : ℕ) → class < length parents → StemsWithin steps (parents ++ more ∷ []) bound class own → StemsWithin steps parents bound class own
    by zero class less is = is
    by (suc steps) class less (inl is) = inl is
    by (suc steps) class less (inr up) =
        let held = sym (slice_get-append_left parents (more ∷ []) class less) ∙ up.1.1 in
        let high = up.0 in
        let before = earlier class up.1.0 held (omega (arith, high)) in
        inr (up.0, (up.1.0, held, by steps up.1.0 (omega (arith, before, less)) up.1.2))

stems-own : (parents : List ℕ) (bound class : ℕ) → class ≡ bound → StemsFrom parents bound class bound
stems-own parents bound class same = (0, (same, omega (arith, same)))

-- the bound may be raised by one, to where the class just above it still stood apart
pub stems-raise : (parents : List ℕ) (bound class own : ℕ) → AreEarlier parents → StemsFrom parents bound class own
    → StemsFrom parents (bound + 1) class own ⊎ (StemsFrom parents (bound + 1) class (bound + 1) × (slice_get parents (bound + 1) ≡ Some own))
stems-raise parents bound class own earlier stems = by stems.0 class stems.1
  where
    by : (steps class : ℕ) → StemsWithin steps parents bound class own
        → StemsFrom parents (bound + 1) class own ⊎ (StemsFrom parents (bound + 1) class (bound + 1) × (slice_get parents (bound + 1) ≡ Some own))
    by zero class is = let low = is.1 in inl (0, (is.0, omega (arith, low)))
    by (suc steps) class (inl is) = let low = is.1 in inl (0, (is.0, omega (arith, low)))
    by (suc steps) class (inr up) =
        let above = up.0 in
        let parent = up.1.0 in
        let held = up.1.1 in
        let before : parent < class = earlier class parent held (omega (arith, above)) in
        ⊎_elim
        (λ same.
        let is_own : parent ≡ own = stems-low parents bound parent own (omega (arith, before, same)) (steps, up.1.2) in
        inr (stems-own parents (bound + 1) class same, subst (λ (k : ℕ). slice_get parents k ≡ Some own) same (held ∙ ap Some is_own)))
        (λ differ.
        let high : bound + 1 < class = omega (arith, above, differ) in
        ⊎_elim
        (λ stems. inl (stems-up parents (bound + 1) class parent own high held stems))
        (λ both. inr (stems-up parents (bound + 1) class parent (bound + 1) high held both.0, both.1))
        (by steps parent up.1.2))
        (cases_eq class (bound + 1))

-- all classes stem from the first one
pub stems-first : (parents : List ℕ) → AreEarlier parents → (class : ℕ) → class < length parents → StemsFrom parents 0 class 0
stems-first parents earlier class within = by class class (omega arith) within
  where
    by : (most class : ℕ) → class ≤ most → class < length parents → StemsFrom parents 0 class 0
    by zero class low less = let same : class ≡ 0 = omega (arith, low) in (0, (same, omega (arith, same)))
    by (suc most) class low less = ⊎_elim
        (λ same. (0, (same, omega (arith, same))))
        (λ differ.
        let parent = slice_get-held parents class less in
        let high : 0 < class = omega (arith, differ) in
        let before = earlier class parent.0 parent.1 high in
        stems-up parents 0 class parent.0 0 high parent.1 (by most parent.0 (omega (arith, before, low)) (omega (arith, before, less))))
        (cases_eq class 0)

-- the way from two classes to where their states parted: the classes in which these were before those above were split off
pub record AreOnWay (parents : List ℕ) (one other first second : ℕ) : Type 0 where
  pub one_within : first < length parents
  pub other_within : second < length parents
  pub differ : one ≢ other → first ≢ second
  pub one_stems : StemsFrom parents (max first second) one first
  pub other_stems : StemsFrom parents (max first second) other second

pub way-begins : (parents : List ℕ) (one other : ℕ) → one < length parents → other < length parents → AreOnWay parents one other one other
way-begins parents one other within also = record {
  one_within = within;
  other_within = also;
  differ = λ differ. differ;
  one_stems = stems-here parents (max one other) one (omega arith);
  other_stems = stems-here parents (max one other) other (omega arith);
}

module _ (parents : List ℕ) (one other first second : ℕ) (earlier : AreEarlier parents) (way : AreOnWay parents one other first second) where
  abbrev parent_of : ℕ → ℕ
  parent_of class = slice_index_or parents class 0

  -- the parents of both are there
  first-held : slice_get parents first ≡ Some (parent_of first)
  first-held = slice_get-get_or parents first 0 way.one_within

  second-held : slice_get parents second ≡ Some (parent_of second)
  second-held = slice_get-get_or parents second 0 way.other_within

  -- the parent of the second is before it, where the first is before it
  pub second-falls : first < second → parent_of second < second
  second-falls above = earlier second (parent_of second) second-held (omega (arith, above))

  -- the later of both classes goes on to its parent
  pub way-first : second < first → parent_of first ≢ second → AreOnWay parents one other (parent_of first) second
  way-first above differs =
      let parent = parent_of first in
      let within = way.one_within in
      let before : parent < first = earlier first parent first-held (omega (arith, above)) in record {
        one_within = omega (arith, before, within);
        other_within = way.other_within;
        differ = λ _. differs;
        one_stems = stems-further parents (max first second) (max parent second) one first parent (omega (arith, before, above)) (omega (arith, before)) first-held (omega arith) way.one_stems;
        other_stems = stems-lower parents (max first second) (max parent second) other second (omega arith) (omega (arith, before)) way.other_stems;
      }

  pub way-second : first < second → parent_of second ≢ first → AreOnWay parents one other first (parent_of second)
  way-second above differs =
      let parent = parent_of second in
      let within = way.other_within in
      let before = second-falls above in record {
        one_within = way.one_within;
        other_within = omega (arith, before, within);
        differ = λ _ same. differs (sym same);
        one_stems = stems-lower parents (max first second) (max first parent) one first (omega arith) (omega (arith, before)) way.one_stems;
        other_stems = stems-further parents (max first second) (max first parent) other second parent (omega (arith, before, above)) (omega (arith, before)) second-held (omega arith) way.other_stems;
      }

  -- or has parted from the other one
  pub part-first : second < first → parent_of first ≡ second → IsParting parents one other first
  part-first above same =
      let top : max first second ≡ first = omega (arith, above) in record {
        some = omega (arith, above);
        parent = second;
        there = first-held ∙ ap Some same;
        sides = inl (subst (λ (bound : ℕ). StemsFrom parents bound one first) top way.one_stems, subst (λ (bound : ℕ). StemsFrom parents bound other second) top way.other_stems);
      }

  pub part-second : first < second → parent_of second ≡ first → IsParting parents one other second
  part-second above same =
      let top : max first second ≡ second = omega (arith, above) in record {
        some = omega (arith, above);
        parent = first;
        there = second-held ∙ ap Some same;
        sides = inr (subst (λ (bound : ℕ). StemsFrom parents bound other second) top way.other_stems, subst (λ (bound : ℕ). StemsFrom parents bound one first) top way.one_stems);
      }
