-- What is left of a reference once the bit of a variable has a value.
use Rattle.std.specs.Prelude.{◌≡◌, ℕ, zero, suc, ◌≤◌, Bool, if◌then◌else◌, nat_eq, List, slice_get, Option, Some, None}
use Rattle.ms_arena.specs.declared.node.Ref.{Ref}
use Rattle.ms_arena.specs.declared.node.Ref.TheVariants.{Leaf, Inner}
use Rattle.ms_arena.specs.declared.node.Node.{Node}

-- the same for the reference to a place: where its node tests the variable it goes on at an end, else it stays
abbrev pub half_behind : ℕ → Bool → ℕ → Option Node → Ref
half_behind var bit place None = Inner place
half_behind var bit place (Some node) = if nat_eq node.var var then (if bit then node.high else node.low) else Inner place

-- the end of a node that tests the variable, and each other reference as it is
abbrev pub half_of : List Node → ℕ → Bool → Ref → Ref
half_of nodes var bit (Leaf value) = Leaf value
half_of nodes var bit (Inner place) = half_behind var bit place (slice_get nodes place)

-- a reference is a leaf, or its node tests this variable or a later one
abbrev pub TestsFrom : List Node → ℕ → Ref → Type 0
TestsFrom nodes var (Leaf value) = Unit {0}
TestsFrom nodes var (Inner place) = (node : Node) → slice_get nodes place ≡ Some node → var ≤ node.var

-- the node of a reference tests this variable
abbrev pub TestsAt : List Node → ℕ → Ref → Type 0
TestsAt nodes var (Leaf value) = ⊥
TestsAt nodes var (Inner place) = (node : Node) × (slice_get nodes place ≡ Some node) × (node.var ≡ var)

-- the places of a list that a diagram can reach: none from a leaf, and from a node its own and those before it
abbrev pub size_of : Ref → ℕ
size_of (Leaf value) = zero
size_of (Inner place) = suc place

-- a reference is a leaf
abbrev pub IsLeaf : Ref → Type 0
IsLeaf (Leaf value) = Unit {0}
IsLeaf (Inner place) = ⊥

-- a reference is no leaf
abbrev pub IsInner : Ref → Type 0
IsInner (Leaf value) = ⊥
IsInner (Inner place) = Unit {0}

-- the variable of a place's node
abbrev pub level_behind : Option Node → ℕ
level_behind None = 4294967296
level_behind (Some node) = node.var

-- the variable that a reference tests first; a leaf stands behind all variables, which are below 2^32
abbrev pub level_of : List Node → Ref → ℕ
level_of nodes (Leaf value) = 4294967296
level_of nodes (Inner place) = level_behind (slice_get nodes place)
