-- The diagrams of a store, read with one variable left out, and with others in place of the rest.
use Rattle.std.specs.Prelude.{◌≢◌, ℕ, ◌<◌, Bool, List, length, slice_index}
use Rattle.ms_arena.specs.declared.node.Ref.{Ref}
use Rattle.ms_arena.specs.declared.node.Node.{Node}
use Rattle.ms_arena.specs.Diagram.{Bits, IsValid}
use Rattle.ms_arena.specs.Bits.{with_bit}
use Rattle.ms_arena.specs.Reach.{TestsOnly}
use Rattle.ms_diagram.specs.Bring.{read_through}

-- nodes, the variable that is left out, and the one that is read in place of each other
pub record Projecting : Type 0 where
  pub nodes : List Node
  pub map : List ℕ
  pub track : ℕ

-- the bits at which a diagram is read: those of the variables in the map, and this one for the track
abbrev pub opened : Projecting → Bits → Bool → Bits
opened view bits bit = with_bit (read_through view.map bits) view.track bit

-- the map keeps the order of the variables but the track
abbrev pub KeepsOrder : Projecting → Type 0
KeepsOrder view =
    (one two : ℕ) → one < two → two < length view.map → one ≢ view.track → two ≢ view.track → slice_index view.map one < slice_index view.map two

-- the reference is one of the nodes, and the map has each variable that it tests
abbrev pub IsReadIn : Projecting → Ref → Type 0
IsReadIn view root = IsValid view.nodes root × TestsOnly view.nodes (λ var. var < length view.map) root
