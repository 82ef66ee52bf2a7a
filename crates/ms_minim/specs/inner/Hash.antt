-- Hashes of the nodes of an automaton by the classes of its states: where the same bits lead to the same classes, they are equal.
use Rattle.std.specs.Prelude.{◌≡◌, ℕ, ◌+◌, ◌*◌, ◌<◌, nat_eq, if◌then◌else◌, List, length, slice_get, slice_index, Some}
use Rattle.ms_arena.specs.declared.node.Node.{Node}
use Rattle.ms_arena.specs.declared.node.Ref.{Ref}
use Rattle.ms_arena.specs.declared.node.Ref.TheVariants.{Leaf, Inner}
use Rattle.ms_diagram.specs.Hash.{scattered}
use Rattle.ms_logic_words.specs.declared.sign.Sign.{Sign}
use Rattle.ms_logic_words.specs.Content.{Content}
use Rattle.ms_minim.specs.inner.Partition.{LeadAlike}

-- of a variable and the hashes of both ends
unfoldable pub mixed : ℕ → ℕ → ℕ → ℕ
mixed var low high = scattered (4294967296 * var + scattered (4294967296 * low + high))

-- that of a node: the hash of its ends, where they have one
abbrev pub joined : ℕ → ℕ → ℕ → ℕ
joined var low high = if nat_eq low high then low else mixed var low high

-- that of a leaf is the class of its state, and that of a place stands in the list
abbrev pub hash_of : List ℕ → List ℕ → Ref → ℕ
hash_of classes hashes (Leaf state) = slice_index classes state
hash_of classes hashes (Inner place) = slice_index hashes place

-- the first nodes have their hashes
abbrev pub HaveHashes : List Node → List ℕ → List ℕ → Type 0
HaveHashes nodes classes hashes =
    (place : ℕ) (node : Node) → slice_get nodes place ≡ Some node → place < length hashes
    → slice_index hashes place ≡ joined node.var (hash_of classes hashes node.low) (hash_of classes hashes node.high)

-- and so have all
pub record AreHashes (nodes : List Node) (classes hashes : List ℕ) : Type 0 where
  pub all : length hashes ≡ length nodes
  pub each : HaveHashes nodes classes hashes

-- states that lead alike have equal marks; so may others
pub record AreCoarseMarks (content : Content Sign) (classes marks : List ℕ) : Type 0 where
  pub all : length marks ≡ length content.states
  pub alike : (one other : ℕ) → one < length content.states → other < length content.states → LeadAlike content classes one other → slice_get marks one ≡ slice_get marks other
