-- Which nodes and variables a diagram has.
use Rattle.std.specs.Prelude.{◌≡◌, ℕ, List, slice_get, Some}
use Rattle.ms_arena.specs.declared.node.Ref.{Ref}
use Rattle.ms_arena.specs.declared.node.Ref.TheVariants.{Inner}
use Rattle.ms_arena.specs.declared.node.Node.{Node}

-- a path of ends leads from the reference to the node at a place
pub data Reaches (nodes : List Node) : Ref → ℕ → Type 0 where
  here : {place : ℕ} → Reaches nodes (Inner place) place
  through_low : {place goal : ℕ} (node : Node) → slice_get nodes place ≡ Some node → Reaches nodes node.low goal → Reaches nodes (Inner place) goal
  through_high : {place goal : ℕ} (node : Node) → slice_get nodes place ≡ Some node → Reaches nodes node.high goal → Reaches nodes (Inner place) goal

-- a node on a path from the reference tests the variable
abbrev pub IsTested : List Node → Ref → ℕ → Type 0
IsTested nodes root var = (place : ℕ) × (node : Node) × Reaches nodes root place × (slice_get nodes place ≡ Some node) × (node.var ≡ var)

-- each variable that the diagram tests has the property
abbrev pub TestsOnly : List Node → (ℕ → Type 0) → Ref → Type 0
TestsOnly nodes P root = (var : ℕ) → IsTested nodes root var → P var
