-- From where the nodes and the states of an automaton are reached: from the start, or from a state.
use Rattle.std.specs.Prelude.{◌≡◌, ◌⊎◌, ℕ, zero, suc, ◌<◌, ◌≤◌, List, length, slice_get, slice_index, Option, Some, None}
use Rattle.ms_list.specs.declared.word.Word.{Word}
use Rattle.ms_arena.specs.declared.node.Ref.{Ref}
use Rattle.ms_arena.specs.declared.node.Ref.TheVariants.{Leaf, Inner}
use Rattle.ms_arena.specs.declared.node.Node.{Node}
use Rattle.ms_arena.specs.Diagram.{Bits, leaf_of}
use Rattle.ms_logic_words.specs.declared.sign.Sign.{Sign}
use Rattle.ms_logic_words.specs.Content.{StateOf, Content, IsWordOver, last_state}
use Rattle.ms_minim.specs.declared.origins.Origins.{Origins}

-- the number of no origin
abbrev pub nowhere : ℕ
nowhere = 4294967295

-- the diagram of an origin: that of the start for 0, and that of a state for the number behind it
abbrev pub next_of : Option (StateOf Sign) → Ref
next_of None = Leaf 0
next_of (Some state) = state.next

abbrev pub root_at : Content Sign → ℕ → Ref
root_at content zero = content.start
root_at content (suc state) = next_of (slice_get content.states state)

-- each leaf of the reference is one of the origin's diagram
abbrev pub ComesFrom : Content Sign → ℕ → Ref → Type 0
ComesFrom content origin reference = (bits : Bits) → (first : Bits) × (leaf_of content.nodes (root_at content origin) first ≡ leaf_of content.nodes reference bits)

-- the origin that is noted of a node, or of a state as a leaf
abbrev pub origin_at : Origins → Ref → ℕ
origin_at origins (Leaf state) = slice_index origins.states.items state
origin_at origins (Inner place) = slice_index origins.nodes.items place

-- there is room for it
abbrev pub HasPlace : Origins → Ref → Type 0
HasPlace origins (Leaf state) = state < length origins.states.items
HasPlace origins (Inner place) = place < length origins.nodes.items

-- an origin is noted of it
abbrev pub IsSeen : Origins → Ref → Type 0
IsSeen origins reference = origin_at origins reference < nowhere

-- the origin of one reference may have become a lesser one
pub record IsNoted (early late : Origins) (reference : Ref) (origin : ℕ) : Type 0 where
  pub nodes : length late.nodes.items ≡ length early.nodes.items
  pub states : length late.states.items ≡ length early.states.items
  pub lower : (other : Ref) → origin_at late other ≤ origin_at early other
  pub own : HasPlace early reference → origin_at late reference ≤ origin
  pub only : (other : Ref) → (origin_at late other ≡ origin_at early other) ⊎ ((other ≡ reference) × (origin_at late other ≡ origin))

-- an origin is noted of a reference, where it is no leaf
abbrev pub IsOn : List ℕ → Ref → Type 0
IsOn origins (Leaf state) = Unit {0}
IsOn origins (Inner place) = slice_index origins place < nowhere

-- where an origin is noted of a node, one is noted of its ends
abbrev pub AreClosed : List Node → List ℕ → Type 0
AreClosed nodes origins = (place : ℕ) (node : Node) → slice_get nodes place ≡ Some node → IsOn origins (Inner place) → IsOn origins node.low × IsOn origins node.high

-- what is noted is right, for the start, the first so many states, and the nodes from a place on
pub record OriginsSoFar (content : Content Sign) (origins : Origins) (states from : ℕ) : Type 0 where
  pub nodes : length origins.nodes.items ≡ length content.nodes
  pub states_long : length origins.states.items ≡ length content.states
  pub sound : (reference : Ref) → HasPlace origins reference → IsSeen origins reference → ComesFrom content (origin_at origins reference) reference
  pub start : IsSeen origins content.start
  pub next : (state : ℕ) → state < states → IsSeen origins (next_of (slice_get content.states state))
  pub closed :
      (place : ℕ) (node : Node) → from ≤ place → slice_get content.nodes place ≡ Some node → IsSeen origins (Inner place)
      → IsSeen origins node.low × IsSeen origins node.high

-- for all
abbrev pub AreOrigins : Content Sign → Origins → Type 0
AreOrigins content origins = OriginsSoFar content origins (length content.states) 0

-- a word leads to the state
abbrev pub IsReachedState : Content Sign → ℕ → Type 0
IsReachedState content state = (word : Word) × IsWordOver content.variables word × (last_state content word ≡ state)
