-- Counts from below: at least so many items, if alike ones are counted once, where it is not known which others there are.
use Rattle.std.specs.Prelude.{ℕ, ◌*◌, ◌<◌, ◌≤◌, List, length, All, AllPairs}
use Rattle.ms_logic_measures.specs.CallMeasures.{IsNumberOf}

-- there are at least n items: a list of n or more of them, no two of which are alike
pub record IsAtLeastNumber {A : Type 0} (AreAlike : A → A → Type 0) (IsItem : A → Type 0) (n : ℕ) : Type 0 where
  pub chosen : List A
  pub items : All IsItem chosen
  pub different : AllPairs (λ one other. ¬ AreAlike one other) chosen
  pub count : n ≤ length chosen

-- what is alike is alike the other way round, and both items that are like a third are alike
pub record IsEquivalence {A : Type 0} (AreAlike : A → A → Type 0) : Type 0 where
  pub symmetric : (one other : A) → AreAlike one other → AreAlike other one
  pub transitive : (one two three : A) → AreAlike one two → AreAlike two three → AreAlike one three

-- each item has a pair below a and below b as its label, and items with one label are alike
pub record IsLabelling {A : Type 0} (AreAlike : A → A → Type 0) (IsItem : A → Type 0) (HasLabel : A → ℕ → ℕ → Type 0) (a b : ℕ) : Type 0 where
  pub labelled : (item : A) → IsItem item → (left right : ℕ) × (left < a) × (right < b) × HasLabel item left right
  pub alike :
      (one other : A) → IsItem one → IsItem other → (left right : ℕ) → HasLabel one left right → HasLabel other left right
      → AreAlike one other

-- what there are at least is no more than what there are
abbrev pub AtMostAnyCount : {A : Type 0} → (A → A → Type 0) → (A → Type 0) → Type 0
AtMostAnyCount AreAlike IsItem =
    IsEquivalence AreAlike → (n m : ℕ) → IsAtLeastNumber AreAlike IsItem n → IsNumberOf AreAlike IsItem m → n ≤ m

-- nor more than the labels
abbrev pub AtMostLabels : {A : Type 0} → (A → A → Type 0) → (A → Type 0) → (A → ℕ → ℕ → Type 0) → Type 0
AtMostLabels AreAlike IsItem HasLabel =
    (n a b : ℕ) → IsLabelling AreAlike IsItem HasLabel a b → IsAtLeastNumber AreAlike IsItem n → n ≤ a * b
