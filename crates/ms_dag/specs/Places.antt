-- Places in a list, and members of one.
use Rattle.std.specs.Prelude.{◌≡◌, ℕ, ◌<◌, List, map, slice_get, slice_index, All, Contains, Some}

-- each of these is a place among so many
abbrev pub AreBelow : ℕ → List ℕ → Type 0
AreBelow count places = All (λ j. j < count) places

-- the names at these places
abbrev pub picked : List ℕ → List ℕ → List ℕ
picked names places = map (slice_index names) places

-- these are the items at these places
abbrev pub AreAt : {X : Type 0} → List X → List ℕ → List X → Type 0
AreAt items places given = map (slice_get items) places ≡ map Some given

-- each of these is among those
abbrev pub AreAmong : List ℕ → List ℕ → Type 0
AreAmong among names = All (Contains among) names
