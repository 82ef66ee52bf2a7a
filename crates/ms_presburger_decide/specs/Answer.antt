-- When an answer is true of a formula of linear arithmetic: the verdict over all natural numbers, the first numbers at which the formula
-- holds, and the first at which it does not.
use Rattle.std.specs.Prelude.{◌≡◌, ℕ, ◌<◌, ◌==◌, max, Bool, ◌⊎◌, List, [], ◌∷◌, length, map, Option, Some, None}
use Rattle.std.specs.Int.{bit_at}
use Rattle.std.specs.Int.Digits.{digits_of}
use Rattle.std.specs.List.{flat_map}
use Rattle.ms_logic.specs.FiniteSet.{numbers_below}
use Rattle.ms_logic.specs.First.{IsLower}
use Rattle.ms_presburger.specs.Numbers.{Holds, Valuation}
use Rattle.ms_presburger.specs.Tree.{Arithmetic, free_names}
use Rattle.ms_report.specs.declared.found.Verdict.{Verdict}
use Rattle.ms_report.specs.declared.found.Verdict.TheVariants.{Valid, Unsatisfiable, Contingent, Vacuous}
use Rattle.ms_report.specs.Numbers.{NumberAnswer, ShownNumbers}

-- how many binary digits a number has; 0 has none
abbrev pub digits : ℕ → ℕ
digits n = length (digits_of 2 n)

-- how many binary digits the largest of some numbers has
abbrev pub most_digits : List ℕ → ℕ
most_digits [] = 0
most_digits (n ∷ more) = max (digits n) (most_digits more)

-- the bit of each number at a place, the least place being 0
abbrev pub bits_at : List ℕ → ℕ → List Bool
bits_at numbers place = map (λ n. bit_at n place == 1) numbers

-- the bits of numbers, place by place from the least, as far as the largest has digits
abbrev pub bits_of : List ℕ → List Bool
bits_of numbers = flat_map (bits_at numbers) (numbers_below (most_digits numbers))

-- Numbers come before as many others: the largest has fewer binary digits; or as many, and at the least place at which some bits differ, of
-- the numbers whose bits differ there, the first has 0, and its counterpart 1.
abbrev pub ComesBefore : List ℕ → List ℕ → Type 0
ComesBefore left right =
    (most_digits left < most_digits right) ⊎ ((most_digits left ≡ most_digits right) × IsLower (bits_of left) (bits_of right))

-- the first valuation, by the numbers that it gives these names, that has a property
pub record IsFirstValuation (names : List (List ℕ)) (Has : Valuation → Type 0) (v : Valuation) : Type 0 where
  pub has : Has v
  pub none_before : (w : Valuation) → ComesBefore (map w names) (map v names) → ¬ Has w

-- what is shown of a valuation: the number of each name, and how many binary digits the largest has
abbrev pub shown_of : List (List ℕ) → Valuation → ShownNumbers
shown_of names v = record { digits = most_digits (map v names); numbers = map v names }

-- what is shown is the first valuation that has the property; nothing is shown where none has it
abbrev pub ShowsFirstNumbers : List (List ℕ) → (Valuation → Type 0) → Option ShownNumbers → Type 0
ShowsFirstNumbers names Has None = (v : Valuation) → ¬ Has v
ShowsFirstNumbers names Has (Some shown) = (v : Valuation) × IsFirstValuation names Has v × (shown ≡ shown_of names v)

abbrev pub FailsAt : Arithmetic → Valuation → Type 0
FailsAt f v = ¬ Holds f v

-- the verdict on the formula over all natural numbers
abbrev pub IsVerdictOn : Arithmetic → Verdict → Type 0
IsVerdictOn f Valid = (v : Valuation) → Holds f v
IsVerdictOn f Unsatisfiable = (v : Valuation) → FailsAt f v
IsVerdictOn f Contingent = ((v : Valuation) × Holds f v) × ((v : Valuation) × FailsAt f v)
IsVerdictOn f Vacuous = ⊥

-- the answer is true of the formula
pub record IsNumberAnswer (f : Arithmetic) (answer : NumberAnswer) : Type 0 where
  pub verdict : IsVerdictOn f answer.verdict
  pub example : ShowsFirstNumbers (free_names f) (Holds f) answer.example
  pub counterexample : ShowsFirstNumbers (free_names f) (FailsAt f) answer.counterexample
