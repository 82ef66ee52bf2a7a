-- A numbering of sets stays one when a set gets a number.
use Rattle.std.proofs.Common.{◌≡◌, ℕ, ◌<◌, List, length, slice_get, Some, sym, ap, subst, ◌∙◌, inl, inr, ⊎_elim}
use Rattle.std.specs.List.Sorted.{IsStrictlyIncreasing}
use Rattle.ms_arena.proofs.Lists.{slice_get-pushed}
use Rattle.ms_diagram.specs.Collect.{IsSetNumbering}
use Rattle.ms_diagram.specs.Numbering.{Numbers}
use Rattle.ms_diagram.proofs.NumberingLemmas.{IsNumbering-numbers}

rising_numbers : (old new : List (List ℕ)) (set : List ℕ) → IsStrictlyIncreasing set → Numbers old new set
    → ((number : ℕ) (other : List ℕ) → slice_get old number ≡ Some other → IsStrictlyIncreasing other)
    → (number : ℕ) (other : List ℕ) → slice_get new number ≡ Some other → IsStrictlyIncreasing other
rising_numbers old new set rising (inl same) all number other held = all number other (ap (λ list. slice_get list number) (sym same) ∙ held)
rising_numbers old new set rising (inr added) all number other held =
    ⊎_elim (λ there. all number other there) (λ last. subst (λ (s : List ℕ). IsStrictlyIncreasing s) last.1 rising)
    (slice_get-pushed old set number other (ap (λ list. slice_get list number) (sym added.1) ∙ held))

pub IsSetNumbering-numbers : (old new : List (List ℕ)) (set : List ℕ) → IsSetNumbering old → IsStrictlyIncreasing set → length old < 4294967295 → Numbers old new set → IsSetNumbering new
IsSetNumbering-numbers old new set is rising room numbers = record {
  numbering = IsNumbering-numbers old new set is.numbering room numbers;
  rising = rising_numbers old new set rising numbers is.rising;
}
