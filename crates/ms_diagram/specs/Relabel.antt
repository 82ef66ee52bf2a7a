-- The function whose leaves are another's, read in a map.
use Rattle.std.specs.Prelude.{◌≡◌, ℕ, ◌<◌, List, length, slice_get, Some}
use Rattle.ms_arena.specs.declared.node.Ref.{Ref}
use Rattle.ms_arena.specs.declared.node.Ref.TheVariants.{Inner}
use Rattle.ms_arena.specs.declared.node.Node.{Node}
use Rattle.ms_arena.specs.Diagram.{Bits, leaf_of, IsValid}
use Rattle.ms_arena.specs.Target.{Target, Meets}

-- what the map has for the leaf of the reference
abbrev pub MappedLeaf : List Node → List ℕ → Ref → Target
MappedLeaf nodes map root = λ bits number. slice_get map (leaf_of nodes root bits) ≡ Some number

-- the map has an item for each leaf of the reference
abbrev pub CoversLeaves : List Node → List ℕ → Ref → Type 0
CoversLeaves nodes map root = (bits : Bits) → leaf_of nodes root bits < length map

-- the reference has at all bits what the map has for the leaf of the node at a place
pub record IsRelabelled (nodes : List Node) (map : List ℕ) (place : ℕ) (made : Ref) : Type 0 where
  pub valid_root : IsValid nodes (Inner place)
  pub valid : IsValid nodes made
  pub meets : Meets nodes (MappedLeaf nodes map (Inner place)) made
