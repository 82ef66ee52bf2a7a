-- What a diagram is built for: a target says which numbers are right as the leaf at each bits.
use Rattle.std.specs.Prelude.{◌≡◌, ◌≢◌, ℕ, ◌≤◌, ◌⊎◌, List, [], ◌∷◌, ◌++◌, length, slice_get, Some}
use Rattle.ms_arena.specs.declared.node.Ref.{Ref}
use Rattle.ms_arena.specs.declared.node.Ref.TheVariants.{Leaf, Inner}
use Rattle.ms_arena.specs.declared.node.Node.{Node}
use Rattle.ms_arena.specs.Diagram.{Bits, end_at, leaf_of, IsValid, TestsAbove}
use Rattle.ms_arena.specs.Bits.{below_from}

-- the numbers that are right at the bits
abbrev pub Target : Type 1
Target = Bits → ℕ → Type 0

-- at all bits the leaf of the reference is right
abbrev pub Meets : List Node → Target → Ref → Type 0
Meets nodes target reference = (bits : Bits) → target bits (leaf_of nodes reference bits)

-- each diagram for the target needs the node: the node's function is what is left of the target once the bits of
-- the variables below the node's are fixed in some way
abbrev pub IsNeeded : List Node → Target → Node → Type 0
IsNeeded nodes target node =
    (first : Bits) × ((bits : Bits) → target (below_from node.var first bits) (leaf_of nodes (end_at node bits) bits))

-- the list begins with the old one
abbrev pub Extends : {X : Type 0} → List X → List X → Type 0
Extends {X} old new = (more : List X) × (new ≡ old ++ more)

-- each node behind the old ones is needed
abbrev pub AddsNeeded : List Node → List Node → Target → Type 0
AddsNeeded old new target =
    (place : ℕ) (node : Node) → length old ≤ place → slice_get new place ≡ Some node → IsNeeded new target node

-- the node could stand behind the list: its ends are there, they differ, and they test later variables
pub record IsFormed (nodes : List Node) (node : Node) : Type 0 where
  pub valid_low : IsValid nodes node.low
  pub valid_high : IsValid nodes node.high
  pub above_low : TestsAbove nodes node.var node.low
  pub above_high : TestsAbove nodes node.var node.high
  pub ends_differ : node.low ≢ node.high

-- the node is at no place of the list
abbrev pub IsNew : List Node → Node → Type 0
IsNew nodes node = (place : ℕ) → slice_get nodes place ≢ Some node

-- the list is the old one, or the old one with the new node behind it
abbrev pub Appends : List Node → List Node → Node → Type 0
Appends old new node = (new ≡ old) ⊎ ((node.low ≢ node.high) × IsNew old node × (new ≡ old ++ node ∷ []))

-- the reference names the node
abbrev pub HoldsAt : List Node → Node → Ref → Type 0
HoldsAt nodes node (Leaf value) = ⊥
HoldsAt nodes node (Inner place) = slice_get nodes place ≡ Some node

-- a node that is needed is not in the list
abbrev pub LacksNeeded : List Node → Target → Type 0
LacksNeeded nodes target = (node : Node) × IsFormed nodes node × IsNew nodes node × IsNeeded nodes target node
