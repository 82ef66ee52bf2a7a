-- Numberings: the number of an item is its place in a list without repeats.
use Rattle.std.specs.Prelude.{◌≡◌, ◌≢◌, ◌⊎◌, ℕ, ◌<◌, ◌≤◌, List, [], ◌∷◌, ◌++◌, length, slice_get, Some}
use Rattle.ms_arena.specs.declared.node.Ref.{Ref}
use Rattle.ms_arena.specs.declared.node.Ref.TheVariants.{Leaf, Inner}

-- no item stands at two places
abbrev pub HasNoRepeats : {X : Type 0} → List X → Type 0
HasNoRepeats {X} items =
    (one two : ℕ) (item : X) → slice_get items one ≡ Some item → slice_get items two ≡ Some item → one ≡ two

-- the items differ, and their number is at most 2^32 - 1
pub record IsNumbering {X : Type 0} (items : List X) : Type 0 where
  pub no_repeats : HasNoRepeats items
  pub small : length items ≤ 4294967295

-- so many numbers, each of which is that of the pair of itself and 0
pub record AreOwnPairs (count : ℕ) (pairs : List (ℕ × ℕ)) : Type 0 where
  pub long : length pairs ≡ count
  pub own : (number : ℕ) → number < count → slice_get pairs number ≡ Some (number, 0)

-- the item has no number
abbrev pub IsMissing : {X : Type 0} → List X → X → Type 0
IsMissing items item = (place : ℕ) → slice_get items place ≢ Some item

-- the list is the old one, or the old one with the item behind it where it had no number
abbrev pub Numbers : {X : Type 0} → List X → List X → X → Type 0
Numbers old new item = (new ≡ old) ⊎ (IsMissing old item × (new ≡ old ++ item ∷ []))

-- the fact holds of each item behind the old ones
abbrev pub AddsOnly : {X : Type 0} → (X → Type 0) → List X → List X → Type 0
AddsOnly {X} fact old new = (number : ℕ) (item : X) → length old ≤ number → slice_get new number ≡ Some item → fact item

-- the reference is the leaf with the number of an item
abbrev pub IsLeafOf : {X : Type 0} → List X → X → Ref → Type 0
IsLeafOf items item (Leaf number) = slice_get items number ≡ Some item
IsLeafOf items item (Inner place) = ⊥
