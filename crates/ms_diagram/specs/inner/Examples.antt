-- Two diagrams of other stores, a bucket, and a row of lists, for worked examples.
use Rattle.std.specs.Prelude.{ℕ, ◌==◌, List, [], ◌∷◌}
use Rattle.ms_arena.specs.declared.node.Node.{Node}
use Rattle.ms_arena.specs.declared.node.Ref.{Ref}
use Rattle.ms_arena.specs.declared.node.Ref.TheVariants.{Leaf, Inner}
use Rattle.ms_arena.specs.Diagram.{Bits}
use Rattle.ms_diagram.specs.declared.computed_table.Bucket.{Bucket}
use Rattle.ms_diagram.specs.declared.listed.Listed.{Listed}
use Rattle.ms_diagram.specs.declared.sides.Sides.{Sides}
use Rattle.ms_diagram.specs.inner.Computed.{no_slots}
use Rattle.ms_diagram.specs.Projecting.{Projecting}
use Rattle.ms_diagram.specs.Side.{Side}

-- a node that tests variable 0: its leaf is that variable's bit
abbrev pub own_bit : List Node
own_bit = record { var = 0; low = Leaf 0; high = Leaf 1 } ∷ []

-- the same on both sides, where the left one reads variable 1, and the right one variable 0
abbrev pub crossed : Sides
crossed = record { left = record { nodes = own_bit; map = 1 ∷ [] }; right = record { nodes = own_bit; map = 0 ∷ [] } }

-- it alone, read in a map with one variable left out
abbrev pub read_in : List ℕ → ℕ → Projecting
read_in map track = record { nodes = own_bit; map = map; track = track }

-- it reads variable 5 in place of its own
abbrev pub renamed_bit : Projecting
renamed_bit = read_in (5 ∷ []) 1

-- its own variable is left out
abbrev pub left_out_bit : Projecting
left_out_bit = read_in (5 ∷ []) 0

-- the set of leaf 1, and that of both leaves
abbrev pub one_and_both : List (List ℕ)
one_and_both = (1 ∷ []) ∷ (0 ∷ 1 ∷ []) ∷ []

-- a map that has no variable for it
abbrev pub without_map : Side
without_map = record { nodes = own_bit; map = [] }

abbrev pub both_roots : Ref × Ref
both_roots = (Inner 0, Inner 0)

-- the bit of one variable alone
abbrev pub only : ℕ → Bits
only var = λ other. other == var

-- a row of two lists of references, one of two and one of one
abbrev pub row_of_three : List Ref
row_of_three = Leaf 1 ∷ Inner 2 ∷ Inner 7 ∷ []

abbrev pub first_list : Listed
first_list = record { begin = 0; end = 2; made = Leaf 4; hash = 2278550756 }

abbrev pub second_list : Listed
second_list = record { begin = 2; end = 3; made = Inner 9; hash = 5 }

-- a bucket of a computed table, whose second slot is empty
abbrev pub half_full : Bucket
half_full = record { first = record { left = 6; right = 7; made = 2 }; second = no_slots.second }
