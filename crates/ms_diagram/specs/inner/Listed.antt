-- A table of lists of references. The lists stand in one row, one behind the other, and chains go through those of one bucket.
use Rattle.std.specs.Prelude.{◌≡◌, ℕ, zero, suc, ◌+◌, ◌-◌, ◌<◌, ◌≤◌, bit_and, List, [], ◌∷◌, length, map, slice_range, All}
use Rattle.ms_arena.specs.declared.node.Ref.{Ref}
use Rattle.ms_arena.specs.inner.Chain.{IsLinked}
use Rattle.ms_diagram.specs.declared.listed.Cell.{Cell}
use Rattle.ms_diagram.specs.declared.listed.Listed.{Listed}
use Rattle.ms_diagram.specs.Hash.{hash_of}

-- the lists of the cells
abbrev pub lists_of : List Cell → List Listed
lists_of cells = map (λ cell. cell.listed) cells

-- their links
abbrev pub links_of : List Cell → List ℕ
links_of cells = map (λ cell. cell.link) cells

-- which of so many buckets a hash is in
unfoldable pub bucket_of : ℕ → ℕ → ℕ
bucket_of buckets hash = bit_and hash (buckets - 1)

-- that of a list
abbrev pub bucket_in : ℕ → Listed → ℕ
bucket_in buckets listed = bucket_of buckets listed.hash

-- the first so many cells are in the chains of their buckets
abbrev pub AreChained : List Cell → List ℕ → ℕ → Type 0
AreChained cells = IsLinked bucket_in (lists_of cells) (links_of cells)

-- the references of a list, and what it has become
abbrev pub entry_of : List Ref → Listed → List Ref × Ref
entry_of roots listed = (slice_range roots listed.begin listed.end, listed.made)

-- the first so many items, the last of them first, in front of others
abbrev pub newest : {X : Type 0} → List X → ℕ → List X → List X
newest [] count others = others
newest (item ∷ items) zero others = others
newest (item ∷ items) (suc count) others = newest items count (item ∷ others)

-- the entries of lists, what was told last first
abbrev pub entries_of : List Ref → List Listed → List (List Ref × Ref)
entries_of roots lists = newest (map (entry_of roots) lists) (length lists) []

-- a list stands in the row, and has its own hash
pub record IsListedIn (roots : List Ref) (listed : Listed) : Type 0 where
  pub ordered : listed.begin ≤ listed.end
  pub within : listed.end ≤ length roots
  pub hashed : listed.hash ≡ hash_of (slice_range roots listed.begin listed.end)

-- a list behind the row
abbrev pub listed_behind : List Ref → List Ref → Ref → Listed
listed_behind roots list made = record { begin = length roots; end = length roots + length list; made = made; hash = hash_of list }

-- the cells have lists of the row, all in chains
pub record IsListTable (roots : List Ref) (cells : List Cell) (heads : List ℕ) : Type 0 where
  pub listed : All (IsListedIn roots) (lists_of cells)
  pub chained : AreChained cells heads (length cells)
  pub small : length cells ≤ 4294967295
  pub bucketed : 0 < length cells → 0 < length heads
