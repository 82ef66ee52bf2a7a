-- Laws of truth over numbers, and of digits.
use Rattle.std.specs.Prelude.{◌≡◌, ℕ, ◌⊎◌, ◌↔◌, List}
use Rattle.ms_logic.specs.declared.mode.Quant.TheVariants.{Ex, All}
use Rattle.ms_logic.specs.FiniteSet.{IsRising}
use Rattle.ms_logic.specs.Lists.{Each}
use Rattle.ms_presburger.specs.Digits.{number_of}
use Rattle.ms_presburger.specs.Numbers.{Valuation, Holds}
use Rattle.ms_presburger.specs.Tree.{Arithmetic, free_names, negation, quantified}

-- a formula holds at a valuation, or it does not
abbrev pub TruthIsDecided : Type 0
TruthIsDecided = (f : Arithmetic) (v : Valuation) → Holds f v ⊎ (¬ Holds f v)

-- a formula holds at each valuation that is the same at its free names
abbrev pub TruthIsOfFreeNames : Type 0
TruthIsOfFreeNames = (f : Arithmetic) (v w : Valuation) → Each (λ name. v name ≡ w name) (free_names f) → Holds f v → Holds f w

-- all names: f and ~ex names: ~f
abbrev pub AllIsDual : Type 0
AllIsDual =
    (names : List (List ℕ)) (f : Arithmetic) (v : Valuation)
    → Holds (quantified All names f) v ↔ Holds (negation (quantified Ex names (negation f))) v

-- each number is that of a set
abbrev pub EachNumberHasDigits : Type 0
EachNumberHasDigits = (n : ℕ) → (members : List ℕ) × IsRising members × (number_of members ≡ n)

-- sets of one number are one
abbrev pub DigitsAreUnique : Type 0
DigitsAreUnique = (left right : List ℕ) → IsRising left → IsRising right → number_of left ≡ number_of right → left ≡ right
