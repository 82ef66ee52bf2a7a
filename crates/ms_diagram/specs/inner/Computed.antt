-- A computed table: buckets of two slots each, where a pair of codes has its bucket by a hash. What is told last comes first.
use Rattle.std.specs.Prelude.{◌≡◌, ◌≢◌, ◌⊎◌, ℕ, suc, ◌+◌, ◌-◌, ◌*◌, ◌/◌, ◌<◌, ◌≤◌, nat_eq, if◌then◌else◌, bit_and, List, [], ◌∷◌, length}
use Rattle.ms_diagram.specs.declared.computed_table.Bucket.{Bucket}
use Rattle.ms_diagram.specs.declared.computed_table.Slot.{Slot}
use Rattle.ms_diagram.specs.declared.computed_table.TheConstants.{EMPTY}
use Rattle.ms_diagram.specs.Hash.{scattered}
use Rattle.ms_diagram.specs.inner.Notes.{KeepsOnly}

-- from which on the buckets stand of the pairs of a right number with 1,024 left ones in a row
abbrev pub row_of : ℕ × ℕ → ℕ
row_of codes = scattered (scattered (4294967296 * (codes.0 / 2048) + codes.1 / 2))

-- which of so many buckets the pair of codes is in: the one in its row that the left number tells
unfoldable pub place_of : ℕ → ℕ × ℕ → ℕ
place_of buckets codes = bit_and (row_of codes + codes.0 / 2) (buckets - 1)

-- the entry of a slot, unless it is empty, in front of others
abbrev pub held : Slot → List ((ℕ × ℕ) × ℕ) → List ((ℕ × ℕ) × ℕ)
held slot rest = if nat_eq slot.left EMPTY then rest else ((slot.left, slot.right), slot.made) ∷ rest

-- those of both slots of a bucket
abbrev pub entries_in : Bucket → List ((ℕ × ℕ) × ℕ) → List ((ℕ × ℕ) × ℕ)
entries_in bucket rest = held bucket.first (held bucket.second rest)

-- and of all buckets
abbrev pub entries_of : List Bucket → List ((ℕ × ℕ) × ℕ)
entries_of [] = []
entries_of (bucket ∷ buckets) = entries_in bucket (entries_of buckets)

-- the place is one from the first up to the second
abbrev pub IsBetween : ℕ × ℕ → ℕ → Type 0
IsBetween range place = (range.0 ≤ place) × (place < range.1)

-- the pair of a slot of the bucket at the place has that bucket, unless the slot is empty or the bucket is one of those that wait
abbrev pub IsPlaced : ℕ × ℕ → ℕ → ℕ → Slot → Type 0
IsPlaced waiting count place slot = slot.left ≢ EMPTY → (place_of count (slot.left, slot.right) ≡ place) ⊎ IsBetween waiting place

-- so it is for all slots of the buckets from the first place on
abbrev pub ArePlaced : ℕ × ℕ → ℕ → ℕ → List Bucket → Type 0
ArePlaced waiting count first [] = Unit {0}
ArePlaced waiting count first (bucket ∷ buckets) =
    IsPlaced waiting count first bucket.first × IsPlaced waiting count first bucket.second × ArePlaced waiting count (suc first) buckets

-- no bucket waits
abbrev pub AreAllPlaced : List Bucket → Type 0
AreAllPlaced buckets = ArePlaced (0, 0) (length buckets) 0 buckets

-- a bucket without entries
abbrev pub no_slots : Bucket
no_slots = record { first = record { left = EMPTY; right = 0; made = 0 }; second = record { left = EMPTY; right = 0; made = 0 } }

-- buckets, of which there is one at least, have entries of the others alone, each in its own bucket
pub record HasMoved (others buckets : List Bucket) : Type 0 where
  pub room : 0 < length buckets
  pub placed : AreAllPlaced buckets
  pub only : KeepsOnly (entries_of others) (entries_of buckets)
