-- What a diagram stands for, in one record (Bryant, 1986).
use Rattle.std.specs.Prelude.{◌≡◌, ℕ, false, true, List}
use Rattle.ms_arena.specs.declared.node.Ref.{Ref}
use Rattle.ms_arena.specs.declared.node.Node.{Node}
use Rattle.ms_arena.specs.Bits.{with_bit}
use Rattle.ms_arena.specs.Diagram.{Bits, leaf_of, IsValid}
use Rattle.ms_arena.specs.Reach.{TestsOnly}

-- a function from bits to numbers, and the variables that it may read
pub record Function : Type 1 where
  pub number : Bits → ℕ
  pub Reads : ℕ → Type 0

-- the reference is one of the list, its leaf at all bits is the number of the function, and it tests only variables that
-- the function may read
pub record Represents (nodes : List Node) (function : Function) (reference : Ref) : Type 0 where
  pub valid : IsValid nodes reference
  pub leaves : (bits : Bits) → leaf_of nodes reference bits ≡ function.number bits
  pub tests : TestsOnly nodes function.Reads reference

-- the function does not read the variable: its number is the same at both bits
abbrev pub Ignores : (Bits → ℕ) → ℕ → Type 0
Ignores number var = (bits : Bits) → number (with_bit bits var false) ≡ number (with_bit bits var true)
