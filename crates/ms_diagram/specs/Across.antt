-- The function that gives at each bits the number of the pair of the leaves of two diagrams, each of a store of its own whose
-- variables are renamed.
use Rattle.std.specs.Prelude.{◌≡◌, ◌⊎◌, ℕ, ◌<◌, Bool, true, false, List, length, slice_get, slice_index, Some, if◌then◌else◌}
use Rattle.ms_arena.specs.declared.node.Ref.{Ref}
use Rattle.ms_arena.specs.declared.node.Ref.TheVariants.{Inner}
use Rattle.ms_arena.specs.declared.node.Node.{Node}
use Rattle.ms_arena.specs.Diagram.{Bits, leaf_of, IsOrdered, IsValid}
use Rattle.ms_arena.specs.Reach.{IsTested}
use Rattle.ms_arena.specs.Target.{Target, Meets}
use Rattle.ms_diagram.specs.declared.sides.Sides.{Sides}
use Rattle.ms_diagram.specs.Bring.{read_through, Renames}
use Rattle.ms_diagram.specs.Numbering.{IsMissing}
use Rattle.ms_diagram.specs.Side.{Side}

-- the leaf of a reference at the bits that are read through the map
abbrev pub side_leaf : Side → Ref → Bits → ℕ
side_leaf side root bits = leaf_of side.nodes root (read_through side.map bits)

-- the reference is one of the nodes, and the map has a variable for each that it tests
abbrev pub IsOn : Side → Ref → Type 0
IsOn side root = IsValid side.nodes root × Renames side.nodes side.map root

-- two references, each on its side
abbrev pub AreOn : Sides → Ref × Ref → Type 0
AreOn sides roots = IsOn sides.left roots.0 × IsOn sides.right roots.1

-- their leaves at the bits
abbrev pub leaves_across : Sides → Ref × Ref → Bits → ℕ × ℕ
leaves_across sides roots bits = (side_leaf sides.left roots.0 bits, side_leaf sides.right roots.1 bits)

-- the leaves are this pair at some bits
abbrev pub HasLeavesAcross : Sides → Ref × Ref → ℕ × ℕ → Type 0
HasLeavesAcross sides roots pair = (bits : Bits) × (leaves_across sides roots bits ≡ pair)

-- the number of the pair of the leaves
abbrev pub NumberAcross : Sides → List (ℕ × ℕ) → Ref × Ref → Target
NumberAcross sides pairs roots = λ bits number. slice_get pairs number ≡ Some (leaves_across sides roots bits)

-- a pair of leaves has no number, and each of the 2^32 - 1 numbers has a pair
abbrev pub LacksAcross : Sides → List (ℕ × ℕ) → Ref × Ref → Type 0
LacksAcross sides pairs roots = (length pairs ≡ 4294967295) × ((bits : Bits) × IsMissing pairs (leaves_across sides roots bits))

-- the reference has at each bits the number of the pair of the leaves
pub record IsPairedAcross (sides : Sides) (pairs : List (ℕ × ℕ)) (nodes : List Node) (roots : Ref × Ref) (made : Ref) : Type 0 where
  pub on : AreOn sides roots
  pub valid : IsValid nodes made
  pub meets : Meets nodes (NumberAcross sides pairs roots) made

-- the end of a node in whose place the variable is read
pub record IsEnd (side : Side) (var : ℕ) (bit : Bool) (root half : Ref) : Type 0 where
  pub place : ℕ
  pub node : Node
  pub is : root ≡ Inner place
  pub held : slice_get side.nodes place ≡ Some node
  pub read : slice_index side.map node.var ≡ var
  pub end : half ≡ (if bit then node.high else node.low)

-- a reference for which later variables alone are read
pub record IsLater (side : Side) (var : ℕ) (root half : Ref) : Type 0 where
  pub same : half ≡ root
  pub above : (tested : ℕ) → IsTested side.nodes root tested → var < slice_index side.map tested

-- what is left of a reference once the bit of the variable has a value, where no earlier variable is read
abbrev pub IsHalf : Side → ℕ → Bool → Ref → Ref → Type 0
IsHalf side var bit root half = IsEnd side var bit root half ⊎ IsLater side var root half

-- two references with their halves at a variable
pub record IsBranchAcross (sides : Sides) (roots : Ref × Ref) (var : ℕ) (low high : Ref × Ref) : Type 0 where
  pub ordered_left : IsOrdered sides.left.nodes
  pub ordered_right : IsOrdered sides.right.nodes
  pub low_left : IsHalf sides.left var false roots.0 low.0
  pub low_right : IsHalf sides.right var false roots.1 low.1
  pub high_left : IsHalf sides.left var true roots.0 high.0
  pub high_right : IsHalf sides.right var true roots.1 high.1
