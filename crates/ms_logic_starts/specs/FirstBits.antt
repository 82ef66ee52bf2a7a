-- What the bits of the first variables leave of a reference.
use Rattle.std.specs.Prelude.{◌≡◌, ℕ, List}
use Rattle.ms_arena.specs.declared.node.Ref.{Ref}
use Rattle.ms_arena.specs.declared.node.Ref.TheVariants.{Leaf, Inner}
use Rattle.ms_arena.specs.declared.node.Node.{Node}
use Rattle.ms_arena.specs.Bits.{below_from}
use Rattle.ms_arena.specs.Diagram.{Bits, leaf_of, IsValid, IsOrdered}
use Rattle.ms_arena.specs.Halves.{TestsFrom}
use Rattle.ms_arena.specs.Reach.{Reaches}

-- a leaf, or a node to which a path leads from the root
abbrev pub IsBehind : List Node → Ref → Ref → Type 0
IsBehind nodes root (Leaf value) = Unit {0}
IsBehind nodes root (Inner place) = Reaches nodes root place

-- from the reference all bits lead where they lead from the root behind the first bits of the variables below a level
pub record BitsLeave (nodes : List Node) (root : Ref) (level : ℕ) (first : Bits) (reference : Ref) : Type 0 where
  pub valid : IsValid nodes reference
  pub behind : IsBehind nodes root reference
  pub tests : TestsFrom nodes level reference
  pub function : (bits : Bits) → leaf_of nodes root (below_from level first bits) ≡ leaf_of nodes reference bits

-- first bits leave a reference
abbrev pub FirstBitsLeaveReference : Type 0
FirstBitsLeaveReference =
    (nodes : List Node) (root : Ref) (level : ℕ) (first : Bits) → IsOrdered nodes → IsValid nodes root
    → (reference : Ref) × BitsLeave nodes root level first reference

-- and each node that is reached is what some first bits leave
abbrev pub ReachedNodesAreLeft : Type 0
ReachedNodesAreLeft =
    (nodes : List Node) (root : Ref) (place : ℕ) → IsOrdered nodes → IsValid nodes root → Reaches nodes root place
    → (level : ℕ) × (first : Bits) × BitsLeave nodes root level first (Inner place)
