-- Starts over one truth value, and over two.
use Rattle.std.proofs.Common.{◌≡◌, ℕ, Bool, List, [], ◌∷◌, length, arith}
use Rattle.ms_logic.specs.declared.mode.Order.TheVariants.{Zero}
use Rattle.ms_logic.specs.inner.Examples.{variable}
use Rattle.ms_logic_words.specs.inner.ContentExamples.{word}
use Rattle.ms_logic_measures.specs.Starts.{Start, some_truth_values, whole_word, part_of_letter, IsStartOver}

-- no truth value, or a word
pub over_one : (P : Start → Type 0) (x : ℕ) → P (some_truth_values []) → ((a : Bool) (letters : List (List Bool)) → P (whole_word (word (a ∷ []) letters)))
    → (start : Start) → IsStartOver (variable x Zero ∷ []) start → P start
over_one P x none whole (some_truth_values []) over = none
over_one P x none whole (some_truth_values (b ∷ more)) over = absurd (omega (arith, over))
over_one P x none whole (whole_word w) over = by_truth w.truth over.truth
  where
    by_truth : (truth : List Bool) → length truth ≡ 1 → P (whole_word (word truth w.letters))
    by_truth [] long = absurd (omega (arith, long))
    by_truth (a ∷ []) long = whole a w.letters
    by_truth (a ∷ b ∷ more) long = absurd (omega (arith, long))
over_one P x none whole (part_of_letter w bits) over = absurd (let few = over.1 in omega (arith, few))

-- no truth value, the first alone, or a word
pub over_two : (P : Start → Type 0) (x y : ℕ) → P (some_truth_values []) → ((b : Bool) → P (some_truth_values (b ∷ [])))
    → ((b a : Bool) (letters : List (List Bool)) → P (whole_word (word (b ∷ a ∷ []) letters))) → (start : Start) → IsStartOver (variable x Zero ∷ variable y Zero ∷ []) start → P start
over_two P x y none first whole (some_truth_values []) over = none
over_two P x y none first whole (some_truth_values (b ∷ [])) over = first b
over_two P x y none first whole (some_truth_values (b ∷ a ∷ more)) over = absurd (omega (arith, over))
over_two P x y none first whole (whole_word w) over = by_truth w.truth over.truth
  where
    by_truth : (truth : List Bool) → length truth ≡ 2 → P (whole_word (word truth w.letters))
    by_truth [] long = absurd (omega (arith, long))
    by_truth (b ∷ []) long = absurd (omega (arith, long))
    by_truth (b ∷ a ∷ []) long = whole b a w.letters
    by_truth (b ∷ a ∷ c ∷ more) long = absurd (omega (arith, long))
over_two P x y none first whole (part_of_letter w bits) over = absurd (let few = over.1 in omega (arith, few))
