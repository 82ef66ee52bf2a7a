-- What contracts see of an arena of nodes.
use Rattle.std.specs.Prelude.{◌≡◌, ℕ, ◌≤◌, List, length, slice_get, Some}
use Rattle.ms_arena.specs.declared.node.Node.{Node}

-- the nodes, in the order of their places, and how many more there is room for
pub record Contents : Type 0 where
  pub nodes : List Node
  pub spare : ℕ

-- no two nodes are equal, and their number is at most 2^32 - 1
pub record IsUnique (nodes : List Node) : Type 0 where
  pub distinct : (one two : ℕ) (node : Node) → slice_get nodes one ≡ Some node → slice_get nodes two ≡ Some node → one ≡ two
  pub small : length nodes ≤ 4294967295
