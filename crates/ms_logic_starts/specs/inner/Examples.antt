-- Counts, nodes and starts for the worked examples.
use Rattle.std.specs.Prelude.{◌≡◌, ℕ, zero, suc, ◌%◌, ◌<◌, List, [], ◌∷◌}
use Rattle.ms_arena.specs.declared.node.Ref.{Ref}
use Rattle.ms_arena.specs.declared.node.Ref.TheVariants.{Leaf, Inner}
use Rattle.ms_arena.specs.declared.node.Node.{Node}
use Rattle.ms_arena.specs.Diagram.{Bits, leaf_of}

-- numbers are alike where they leave one remainder by 2
abbrev pub HaveOneRemainder : ℕ → ℕ → Type 0
HaveOneRemainder one other = one % 2 ≡ other % 2

abbrev pub IsBelow : ℕ → ℕ → Type 0
IsBelow bound item = item < bound

-- 1 where one of the bits of two variables is 1, else 0: a node for the variable 1, and before it one for the variable 0
abbrev pub two_nodes : List Node
two_nodes = record { var = 1; low = Leaf 0; high = Leaf 1 } ∷ record { var = 0; low = Inner 0; high = Leaf 1 } ∷ []

-- what is left where no bit is given, where the bit 0 is, and in the end
abbrev pub reference_of : ℕ → Ref
reference_of zero = Inner 1
reference_of (suc zero) = Inner 0
reference_of (suc (suc number)) = Leaf number

abbrev pub leaves_of : ℕ → Bits → ℕ
leaves_of start bits = leaf_of two_nodes (reference_of start) bits
