-- What contracts see of a store of diagrams.
use Rattle.std.specs.Prelude.{◌≡◌, ℕ, suc, ◌≤◌, Bool, false, List, length, slice_index_or, Option, Some, None}
use Rattle.ms_arena.specs.declared.node.Node.{Node}
use Rattle.ms_arena.specs.declared.node.Ref.{Ref}
use Rattle.ms_arena.specs.declared.node.Ref.TheVariants.{Leaf, Inner}
use Rattle.ms_arena.specs.Diagram.{Bits, IsOrdered, IsReduced}
use Rattle.ms_cache.specs.Memo.{Contents as Memo}

-- the nodes of a store, in the order of their places, how many it may hold, and how many answers its memo has given
pub record Contents : Type 0 where
  pub nodes : List Node
  pub limit : ℕ
  pub hits : ℕ

-- a memo that is not made has given no answer
abbrev pub memo_hits : Option Memo → ℕ
memo_hits None = 0
memo_hits (Some memo) = memo.hits

-- the nodes are reduced ordered diagrams, and no more than the limit
pub record IsStore (nodes : List Node) (limit : ℕ) : Type 0 where
  pub ordered : IsOrdered nodes
  pub reduced : IsReduced nodes
  pub within : length nodes ≤ limit
  pub small : limit ≤ 4000000000

-- the reference is to the node at the last of so many places
abbrev pub IsNewest : ℕ → Ref → Type 0
IsNewest places (Leaf value) = ⊥
IsNewest places (Inner place) = suc place ≡ places

-- the bits of the variables that a list has, and 0 for each later variable
abbrev pub bits_of : List Bool → Bits
bits_of list = λ var. slice_index_or list var false
