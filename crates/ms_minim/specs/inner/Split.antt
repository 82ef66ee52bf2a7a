-- How classes are split by marks.
use Rattle.std.specs.Prelude.{◌≡◌, ◌⊎◌, ℕ, suc, ◌+◌, ◌<◌, ◌≤◌, List, [], ◌∷◌, ◌++◌, length, slice_get, slice_index, Some}
use Rattle.ms_diagram.specs.Numbering.{IsMissing, IsNumbering}
use Rattle.ms_minim.specs.inner.Partition.{HaveOneClass, IsInhabited}

-- a key has this number; where it was new, it got the number behind all others, and its class is known by this state
pub record IsPlaced (keys : List (ℕ × ℕ)) (members : List ℕ) (late_keys : List (ℕ × ℕ)) (late_members : List ℕ) (key : ℕ × ℕ) (state number : ℕ) : Type 0 where
  pub number_is : slice_get late_keys number ≡ Some key
  pub added : ((late_keys ≡ keys) × (late_members ≡ members)) ⊎ (IsMissing keys key × (late_keys ≡ keys ++ key ∷ []) × (late_members ≡ members ++ state ∷ []))
  pub numbering : IsNumbering late_keys

-- so it is behind any keys that are in front, one for each class that has none of these keys, where the key is none of them
abbrev pub IsPlacedBehind : List (ℕ × ℕ) → List ℕ → List (ℕ × ℕ) → List ℕ → ℕ × ℕ → ℕ → ℕ → Type 0
IsPlacedBehind keys members late_keys late_members key state number =
    (front : List (ℕ × ℕ)) → length front + length keys ≡ length members → IsNumbering (front ++ keys) → IsMissing front key
    → IsPlaced (front ++ keys) members (front ++ late_keys) late_members key state number

-- the old class of a state with its mark
abbrev pub key_of : List ℕ → List ℕ → ℕ → ℕ × ℕ
key_of classes marks state = (slice_index classes state, slice_index marks state)

-- each class is known by a state that has the key of its number
pub record AreKeyed (classes marks : List ℕ) (keys : List (ℕ × ℕ)) (members : List ℕ) : Type 0 where
  pub numbering : IsNumbering keys
  pub equal : length keys ≡ length members
  pub keyed : (class state : ℕ) → slice_get members class ≡ Some state → (state < length classes) × (slice_get keys class ≡ Some (key_of classes marks state))

-- the number of each class, from the first one on, with the mark of the state that the class is known by
abbrev pub own_keys : List ℕ → ℕ → List ℕ → List (ℕ × ℕ)
own_keys marks first [] = []
own_keys marks first (member ∷ members) = (first, slice_index marks member) ∷ own_keys marks (suc first) members

-- the old classes keep their numbers
pub record BeginsWith (classes members marks : List ℕ) (keys : List (ℕ × ℕ)) (made_members : List ℕ) : Type 0 where
  pub keyed : AreKeyed classes marks keys made_members
  pub count : length members ≤ length keys
  pub old : (class : ℕ) → class < length members → slice_get keys class ≡ Some (key_of classes marks (slice_index members class))

-- the first states have the numbers of their keys
pub record AreSplit (classes members marks : List ℕ) (keys : List (ℕ × ℕ)) (made_members made : List ℕ) : Type 0 where
  pub begun : BeginsWith classes members marks keys made_members
  pub numbered : (state number : ℕ) → slice_get made state ≡ Some number → slice_get keys number ≡ Some (key_of classes marks state)

-- states have one class exactly where they had one class and equal marks; where no class is new, equal classes have equal marks
pub record IsSplit (classes members marks made made_members : List ℕ) : Type 0 where
  pub all : length made ≡ length classes
  pub inhabited : IsInhabited made made_members
  pub together :
      (one other : ℕ) → one < length classes → other < length classes → HaveOneClass classes one other → slice_get marks one ≡ slice_get marks other
      → HaveOneClass made one other
  pub apart :
      (one other : ℕ) → one < length classes → other < length classes → HaveOneClass made one other
      → HaveOneClass classes one other × (slice_get marks one ≡ slice_get marks other)
  pub more : length members ≤ length made_members
  pub done :
      length made_members ≡ length members → (one other : ℕ) → one < length classes → other < length classes → HaveOneClass classes one other
      → slice_get marks one ≡ slice_get marks other

-- all items are 0
abbrev pub AreZeros : List ℕ → Type 0
AreZeros list = (place : ℕ) → place < length list → slice_get list place ≡ Some 0
