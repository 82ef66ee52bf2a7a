-- The bucket of a node in a hash table.
use Rattle.std.specs.Prelude.{ℕ, ◌+◌, ◌-◌, ◌*◌, ◌/◌, ◌%◌, ◌^◌, bit_and}
use Rattle.ms_arena.specs.declared.node.Node.{Node}
use Rattle.ms_arena.specs.declared.node.Ref.{Ref}
use Rattle.ms_arena.specs.declared.node.Ref.TheVariants.{Leaf, Inner}
use Rattle.ms_arena.specs.declared.hash.TheConstants.{LEAF_FACTOR, LOW_STEP, HIGH_STEP}

-- a number for each end of a node: the place of a node, and for a leaf the upper half of a product in 64 bits
abbrev pub position_of : Ref → ℕ
position_of (Leaf value) = ((value * LEAF_FACTOR) % 2 ^ 64) / 2 ^ 32
position_of (Inner place) = place

-- the number that a node has its bucket by
unfoldable pub hash_of : Node → ℕ
hash_of node = LOW_STEP * position_of node.low + HIGH_STEP * position_of node.high + node.var

-- which of so many buckets the node is in
unfoldable pub bucket_of : ℕ → Node → ℕ
bucket_of buckets node = bit_and (hash_of node) (buckets - 1)
