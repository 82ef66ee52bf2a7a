-- Places that may have a number. For each number its last place is held, and at a place the one before it with the same number.
use Rattle.std.specs.Prelude.{◌≡◌, ℕ, ◌<◌, ◌==◌, zero, suc, Bool, false, if◌then◌else◌, List, length, map, slice_index_or, Option, Some, None}
use Rattle.std.specs.List.{list_any}
use Rattle.ms_names_scopes.specs.declared.numbers.Place.{Place}

abbrev pub Numbered : Type 0
Numbered = List (Option ℕ)

abbrev pub is_number : ℕ → Option ℕ → Bool
is_number x None = false
is_number x (Some y) = y == x

-- a number, if it is one of these
abbrev pub is_one_of : List ℕ → Option ℕ → Bool
is_one_of xs number = list_any (λ x. is_number x number) xs

-- the number of a place, if it has one
abbrev pub number_at : Numbered → ℕ → Option ℕ
number_at numbers place = slice_index_or numbers place None

-- the last place of a number before another place
abbrev pub last_before : Numbered → ℕ → ℕ → Option ℕ
last_before numbers x zero = None
last_before numbers x (suc place) = if is_number x (number_at numbers place) then Some place else last_before numbers x place

abbrev pub numbers_of : List Place → Numbered
numbers_of places = map (λ place. place.number) places

-- the places, with what is held for each number
pub record IsLinked (last : ℕ → Option ℕ) (places : List Place) : Type 0 where
  pub found : (x : ℕ) → last x ≡ last_before (numbers_of places) x (length places)
  pub linked : (i x : ℕ) (place : Place) → i < length places → number_at (numbers_of places) i ≡ Some x →
      (slice_index_or places i place).earlier ≡ last_before (numbers_of places) x i
