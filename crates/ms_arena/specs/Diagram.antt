-- Ordered decision diagrams over a list of nodes (Bryant, 1986).
--
-- A node stands at a place of the list, from 0, and names only nodes before it. A reference is a leaf, which is
-- a number, or the place of a node. Bits give each variable 0 or 1, and lead from a reference to a leaf.
use Rattle.std.specs.Prelude.{◌≡◌, ◌≢◌, ℕ, zero, suc, ◌<◌, Bool, if◌then◌else◌, List, length, slice_get, Option, Some, None}
use Rattle.ms_arena.specs.declared.node.Ref.{Ref}
use Rattle.ms_arena.specs.declared.node.Ref.TheVariants.{Leaf, Inner}
use Rattle.ms_arena.specs.declared.node.Node.{Node}

-- the bit of each variable, true for 1
abbrev pub Bits : Type 0
Bits = ℕ → Bool

-- the end of a node to which the bits lead: its low end at 0, its high end at 1
abbrev pub end_at : Node → Bits → Ref
end_at node bits = if bits node.var then node.high else node.low

-- where the bits lead from the node at a place, which stays where there is no such node
abbrev pub end_behind : ℕ → Option Node → Bits → Ref
end_behind place None bits = Inner place
end_behind place (Some node) bits = end_at node bits

-- one step along the bits: from a node to one of its ends, and from a leaf nowhere
abbrev pub step_from : List Node → Bits → Ref → Ref
step_from nodes bits (Leaf value) = Leaf value
step_from nodes bits (Inner place) = end_behind place (slice_get nodes place) bits

-- the reference after so many steps
abbrev pub ref_after : List Node → Bits → ℕ → Ref → Ref
ref_after nodes bits zero reference = reference
ref_after nodes bits (suc steps) reference = ref_after nodes bits steps (step_from nodes bits reference)

-- the number of a leaf
abbrev pub leaf_number : Ref → ℕ
leaf_number (Leaf value) = value
leaf_number (Inner place) = 0

-- the leaf to which the bits lead from a reference: a path passes no node twice, so it ends within as many steps
-- as there are nodes
unfoldable pub leaf_of : List Node → Ref → Bits → ℕ
leaf_of nodes reference bits = leaf_number (ref_after nodes bits (length nodes) reference)

-- two references stand for the same function
abbrev pub SameFunction : List Node → Ref → Ref → Type 0
SameFunction nodes left right = (bits : Bits) → leaf_of nodes left bits ≡ leaf_of nodes right bits

-- a reference is a leaf, or names a node among the first so many
abbrev pub IsBefore : ℕ → Ref → Type 0
IsBefore count (Leaf value) = Unit {0}
IsBefore count (Inner place) = place < count

-- a reference is a leaf, or its node is in the list
abbrev pub IsValid : List Node → Ref → Type 0
IsValid nodes reference = IsBefore (length nodes) reference

-- a reference is a leaf, or its node tests a variable above this one
abbrev pub TestsAbove : List Node → ℕ → Ref → Type 0
TestsAbove nodes var (Leaf value) = Unit {0}
TestsAbove nodes var (Inner place) = (node : Node) → slice_get nodes place ≡ Some node → var < node.var

-- each node names only earlier nodes, and variables rise towards the leaves
pub record IsOrdered (nodes : List Node) : Type 0 where
  pub earlier_low : (place : ℕ) (node : Node) → slice_get nodes place ≡ Some node → IsBefore place node.low
  pub earlier_high : (place : ℕ) (node : Node) → slice_get nodes place ≡ Some node → IsBefore place node.high
  pub rising_low : (place : ℕ) (node : Node) → slice_get nodes place ≡ Some node → TestsAbove nodes node.var node.low
  pub rising_high : (place : ℕ) (node : Node) → slice_get nodes place ≡ Some node → TestsAbove nodes node.var node.high

-- no node has equal ends, and no two nodes are equal
pub record IsReduced (nodes : List Node) : Type 0 where
  pub ends_differ : (place : ℕ) (node : Node) → slice_get nodes place ≡ Some node → node.low ≢ node.high
  pub distinct : (one two : ℕ) (node : Node) → slice_get nodes one ≡ Some node → slice_get nodes two ≡ Some node → one ≡ two
