-- The leaves of a diagram along its paths.
use Rattle.std.specs.Prelude.{ℕ, zero, suc, List, [], ◌∷◌, ◌++◌, slice_get, Option, Some, None}
use Rattle.ms_arena.specs.declared.node.Ref.{Ref}
use Rattle.ms_arena.specs.declared.node.Ref.TheVariants.{Leaf, Inner}
use Rattle.ms_arena.specs.declared.node.Node.{Node}

-- the leaf alone of a reference that is one
abbrev pub own_leaf : Ref → List ℕ
own_leaf (Leaf value) = value ∷ []
own_leaf (Inner place) = []

-- the leaves behind a node, those of its low end first
abbrev pub leaves_behind : (Ref → List ℕ) → Option Node → List ℕ
leaves_behind leaves None = []
leaves_behind leaves (Some node) = leaves node.low ++ leaves node.high

-- the leaf of a leaf, or the leaves behind a node
abbrev pub leaves_before : List Node → (Ref → List ℕ) → Ref → List ℕ
leaves_before nodes leaves (Leaf value) = value ∷ []
leaves_before nodes leaves (Inner place) = leaves_behind leaves (slice_get nodes place)

-- the leaves at the ends of all paths of at most so many steps, the low end of each node first
abbrev pub leaves_within : List Node → ℕ → Ref → List ℕ
leaves_within nodes zero = own_leaf
leaves_within nodes (suc steps) = leaves_before nodes (leaves_within nodes steps)
