-- The chains of a hash table, each through the places of one bucket. A link is one more than a place, or 0.
use Rattle.std.specs.Prelude.{◌≡◌, ℕ, suc, ◌<◌, ◌≤◌, List, length, map, slice_get, slice_index, Some}
use Rattle.ms_arena.specs.declared.node.Node.{Node}
use Rattle.ms_arena.specs.declared.cells.Cell.{Cell}
use Rattle.ms_arena.specs.inner.Bucket.{bucket_of}

-- of the first so many places the link leads to the last one whose item is in the bucket, and it is 0 where there is
-- none
pub record IsLast {X : Type 0} (bucket_of : X → ℕ) (items : List X) (count bucket link : ℕ) : Type 0 where
  pub within : link ≤ count
  pub reaches : (place : ℕ) (item : X) → slice_get items place ≡ Some item → place < count → bucket_of item ≡ bucket → place < link
  pub stays : (place : ℕ) (item : X) → slice_get items place ≡ Some item → suc place ≡ link → bucket_of item ≡ bucket

-- of the first so many places each bucket has its last as its head, and each place links to the one before it in its
-- bucket
pub record IsLinked {X : Type 0} (bucket_of : ℕ → X → ℕ) (items : List X) (links heads : List ℕ) (count : ℕ) : Type 0 where
  pub headed : (bucket : ℕ) → bucket < length heads → IsLast (bucket_of (length heads)) items count bucket (slice_index heads bucket)
  pub followed : (place : ℕ) (item : X) (link : ℕ) → slice_get items place ≡ Some item → slice_get links place ≡ Some link → place < count
      → IsLast (bucket_of (length heads)) items place (bucket_of (length heads) item) link

-- each head is the end of a chain
abbrev pub AreEmpty : List ℕ → Type 0
AreEmpty heads = (bucket : ℕ) → bucket < length heads → slice_index heads bucket ≡ 0

-- the nodes of the cells
abbrev pub nodes_of : List Cell → List Node
nodes_of cells = map (λ cell. cell.node) cells

-- their links
abbrev pub links_of : List Cell → List ℕ
links_of cells = map (λ cell. cell.next) cells

-- the first so many cells are linked by the buckets of their nodes
abbrev pub AreLinked : List Cell → List ℕ → ℕ → Type 0
AreLinked cells = IsLinked bucket_of (nodes_of cells) (links_of cells)
