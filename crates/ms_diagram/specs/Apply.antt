-- The function that gives at each bits the number of the pair of two functions' leaves.
use Rattle.std.specs.Prelude.{◌≡◌, ◌⊎◌, ℕ, true, false, List, length, slice_get, Some}
use Rattle.ms_arena.specs.declared.node.Ref.{Ref}
use Rattle.ms_arena.specs.declared.node.Ref.TheVariants.{Leaf}
use Rattle.ms_arena.specs.declared.node.Node.{Node}
use Rattle.ms_arena.specs.Diagram.{Bits, leaf_of, IsValid}
use Rattle.ms_arena.specs.Halves.{half_of, TestsFrom, TestsAt}
use Rattle.ms_arena.specs.Target.{Target, Meets}
use Rattle.ms_diagram.specs.declared.apply.PairSplit.{PairSplit}
use Rattle.ms_diagram.specs.declared.apply.PairSplit.TheVariants.{Leaves, Branch}
use Rattle.ms_diagram.specs.Numbering.{IsMissing}

-- the leaves of two references at the bits
abbrev pub leaves_at : List Node → Ref → Ref → Bits → ℕ × ℕ
leaves_at nodes f g bits = (leaf_of nodes f bits, leaf_of nodes g bits)

-- the leaves are this pair at some bits
abbrev pub HasLeaves : List Node → Ref → Ref → ℕ × ℕ → Type 0
HasLeaves nodes f g pair = (bits : Bits) × (leaves_at nodes f g bits ≡ pair)

-- the number of the pair of the leaves
abbrev pub PairNumber : List Node → List (ℕ × ℕ) → Ref → Ref → Target
PairNumber nodes pairs f g = λ bits number. slice_get pairs number ≡ Some (leaves_at nodes f g bits)

-- a pair of leaves has no number, and each of the 2^32 - 1 numbers has a pair
abbrev pub LacksPair : List Node → List (ℕ × ℕ) → Ref → Ref → Type 0
LacksPair nodes pairs f g = (length pairs ≡ 4294967295) × ((bits : Bits) × IsMissing pairs (leaves_at nodes f g bits))

-- the reference has at each bits the number of the pair of the leaves
pub record IsPaired (nodes : List Node) (pairs : List (ℕ × ℕ)) (key : Ref × Ref) (made : Ref) : Type 0 where
  pub valid_f : IsValid nodes key.0
  pub valid_g : IsValid nodes key.1
  pub valid : IsValid nodes made
  pub meets : Meets nodes (PairNumber nodes pairs key.0 key.1) made

-- two references that are split at the first variable that one of them tests, into their halves
pub record IsPairBranch (nodes : List Node) (f g : Ref) (var : ℕ) (low high : Ref × Ref) : Type 0 where
  pub from_f : TestsFrom nodes var f
  pub from_g : TestsFrom nodes var g
  pub tested : TestsAt nodes var f ⊎ TestsAt nodes var g
  pub low_is : low ≡ (half_of nodes var false f, half_of nodes var false g)
  pub high_is : high ≡ (half_of nodes var true f, half_of nodes var true g)

-- two references are two leaves, or are split
abbrev pub IsPairSplit : List Node → Ref → Ref → PairSplit → Type 0
IsPairSplit nodes f g (Leaves left right) = (f ≡ Leaf left) × (g ≡ Leaf right)
IsPairSplit nodes f g (Branch var low high) = IsPairBranch nodes f g var low high
