-- The function of a reference of another store, with other variables read in place of its own.
use Rattle.std.specs.Prelude.{◌≡◌, ℕ, ◌<◌, List, length, slice_index}
use Rattle.ms_arena.specs.declared.node.Ref.{Ref}
use Rattle.ms_arena.specs.declared.node.Ref.TheVariants.{Inner}
use Rattle.ms_arena.specs.declared.node.Node.{Node}
use Rattle.ms_arena.specs.Diagram.{Bits, leaf_of, IsValid}
use Rattle.ms_arena.specs.Reach.{IsTested}
use Rattle.ms_arena.specs.Target.{Target, Meets}

-- the bits that the variables have, where the map says which variable is read in place of each
abbrev pub read_through : List ℕ → Bits → Bits
read_through map bits = λ var. bits (slice_index map var)

-- the leaf of the reference at the bits that are read through the map
abbrev pub RenamedLeaf : List Node → List ℕ → Ref → Target
RenamedLeaf nodes map root = λ bits number. number ≡ leaf_of nodes root (read_through map bits)

-- the map has a variable for each that the reference tests, in the same order
pub record Renames (nodes : List Node) (map : List ℕ) (root : Ref) : Type 0 where
  pub long : (var : ℕ) → IsTested nodes root var → var < length map
  pub rising : (one two : ℕ) → IsTested nodes root one → IsTested nodes root two → one < two → slice_index map one < slice_index map two

-- the reference has the renamed leaf of the other store's node at a place
pub record IsBrought (origin : List Node) (map : List ℕ) (nodes : List Node) (place : ℕ) (made : Ref) : Type 0 where
  pub valid_root : IsValid origin (Inner place)
  pub valid : IsValid nodes made
  pub meets : Meets nodes (RenamedLeaf origin map (Inner place)) made
