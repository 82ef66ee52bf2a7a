-- Labels of what first bits leave of a content: what has one label is one function.
use Rattle.std.specs.Prelude.{◌≡◌, ℕ, ◌<◌, ◌≤◌, length, slice_get, Option, Some, None}
use Rattle.ms_arena.specs.Bits.{below_from}
use Rattle.ms_arena.specs.Diagram.{Bits, IsOrdered, leaf_of}
use Rattle.ms_dfa_explore.specs.Explored.{Origin}
use Rattle.ms_logic_words.specs.Content.{Content, IsClosed, StateOf}
use Rattle.ms_logic_words.specs.declared.sign.Sign.{Sign}

-- the start, or a state that is there
abbrev pub IsOrigin : Content Sign → Origin → Type 0
IsOrigin content None = Unit {0}
IsOrigin content (Some state) = state < length content.states

-- the state to which the bits lead from a state; where there is none, 0
abbrev pub behind_state : Content Sign → Option (StateOf Sign) → Bits → ℕ
behind_state content None bits = 0
behind_state content (Some state) bits = leaf_of content.nodes state.next bits

-- the state to which the bits lead from an origin
abbrev pub behind : Content Sign → Origin → Bits → ℕ
behind content None bits = leaf_of content.nodes content.start bits
behind content (Some state) bits = behind_state content (slice_get content.states state) bits

-- a closed content of ordered diagrams, and for each of its origins and all bits of the first variables a label below the bound:
-- where two labels are equal, both origins lead to the same states behind these bits. There are no more states than labels
pub record IsLabelledBelow (content : Content Sign) (bound : ℕ) : Type 0 where
  pub ordered : IsOrdered content.nodes
  pub closed : IsClosed content
  pub label : (origin : Origin) → IsOrigin content origin → (level : ℕ) (first : Bits) → ℕ
  pub below : (origin : Origin) (is : IsOrigin content origin) (level : ℕ) (first : Bits) → label origin is level first < bound
  pub alike :
      (one other : Origin) (is_one : IsOrigin content one) (is_other : IsOrigin content other) (level level' : ℕ) (first first' : Bits)
      → label one is_one level first ≡ label other is_other level' first'
      → (bits : Bits) → behind content one (below_from level first bits) ≡ behind content other (below_from level' first' bits)
  pub states : length content.states ≤ bound
