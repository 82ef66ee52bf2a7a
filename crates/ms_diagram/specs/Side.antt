-- A store whose variables are renamed.
use Rattle.std.specs.Prelude.{ℕ, List}
use Rattle.ms_arena.specs.declared.node.Node.{Node}

-- nodes, and the variable that is read in place of each of theirs
pub record Side : Type 0 where
  pub nodes : List Node
  pub map : List ℕ
