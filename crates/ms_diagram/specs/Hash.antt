-- Hashes of numbers and of lists of references.
use Rattle.std.specs.Prelude.{ℕ, ◌+◌, ◌*◌, ◌/◌, ◌%◌, ◌^◌, bit_xor, List, [], ◌∷◌}
use Rattle.std.specs.Int.{rotate_left, w64}
use Rattle.ms_arena.specs.declared.node.Ref.{Ref}
use Rattle.ms_arena.specs.declared.node.Ref.TheVariants.{Leaf, Inner}
use Rattle.ms_diagram.specs.declared.hash.TheConstants.{FACTOR}

-- the upper half of a product in 64 bits
abbrev pub scattered : ℕ → ℕ
scattered number = ((number * FACTOR) % 2 ^ 64) / 2 ^ 32

-- where a reference stands among all: the leaves first
abbrev pub rank_of : Ref → ℕ
rank_of (Leaf value) = value
rank_of (Inner place) = 4294967296 + place

-- a hash of 64 bits, with another number in it
unfoldable pub mixed : ℕ → ℕ → ℕ
mixed hash number = (rotate_left w64 (bit_xor hash number) 23 * FACTOR) % 2 ^ 64

-- and with the ranks of references, one after the other
abbrev pub mixed_with : ℕ → List Ref → ℕ
mixed_with hash [] = hash
mixed_with hash (root ∷ roots) = mixed_with (mixed hash (rank_of root)) roots

-- the hash of a list: the upper half of what its references come to
abbrev pub hash_of : List Ref → ℕ
hash_of roots = mixed_with 0 roots / 2 ^ 32
