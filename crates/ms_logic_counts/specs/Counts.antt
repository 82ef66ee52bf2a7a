-- Exact counts exist. That items are alike need not be decided, so that there is none is what is refuted.
use Rattle.std.specs.Prelude.{◌≡◌, ℕ, List, Contains}
use Rattle.ms_logic_measures.specs.CallMeasures.{IsNumberOf}

-- it is not so that there is no exact count of the items
abbrev pub AreCounted : {A : Type 0} → (A → A → Type 0) → (A → Type 0) → Type 0
AreCounted AreAlike IsItem = ¬ ¬ ((n : ℕ) × IsNumberOf AreAlike IsItem n)

-- an item is like those that an item like it is like
abbrev pub IsTransitive : {A : Type 0} → (A → A → Type 0) → Type 0
IsTransitive {A} AreAlike = (one two three : A) → AreAlike one two → AreAlike two three → AreAlike one three

-- the label of each item is in the list, and items with one label are alike
pub record IsFiniteLabelling {A Label : Type 0} (AreAlike : A → A → Type 0) (IsItem : A → Type 0) (label : A → Label) (labels : List Label) : Type 0 where
  pub listed : (item : A) → IsItem item → Contains labels (label item)
  pub alike : (one other : A) → IsItem one → IsItem other → label one ≡ label other → AreAlike one other

-- items with finitely many labels have an exact count
abbrev pub CountsExist : {A : Type 0} → (A → A → Type 0) → (A → Type 0) → Type 0 → Type 0
CountsExist {A} AreAlike IsItem Label =
    IsTransitive AreAlike → (label : A → Label) (labels : List Label) → IsFiniteLabelling AreAlike IsItem label labels → AreCounted AreAlike IsItem
