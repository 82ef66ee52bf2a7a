-- Partitions of the states of an automaton into classes.
use Rattle.std.specs.Prelude.{◌≡◌, ℕ, ◌<◌, ◌≤◌, Bool, List, length, slice_get, slice_index, Option, Some, None}
use Rattle.ms_arena.specs.declared.node.Ref.{Ref}
use Rattle.ms_arena.specs.Diagram.{Bits, leaf_of}
use Rattle.ms_logic.specs.declared.mode.Order.{Order}
use Rattle.ms_logic_words.specs.declared.sign.Sign.{Sign}
use Rattle.ms_logic_words.specs.Content.{StateOf, Content, IsFollowed, sign_at}
use Rattle.ms_logic_words.specs.Residual.{HaveEqualResiduals}

-- the map leaves each of so many places where it is
pub record IsIdentity (count : ℕ) (map : List ℕ) : Type 0 where
  pub long : length map ≡ count
  pub same : (place : ℕ) → place < count → slice_index map place ≡ place

-- the reference is the start of the content, or that of a state
abbrev pub IsRoot : Content Sign → Ref → Type 0
IsRoot content root = (has_value : Order → Bool) × IsFollowed content has_value root

-- two states have one class
abbrev pub HaveOneClass : List ℕ → ℕ → ℕ → Type 0
HaveOneClass classes one other = slice_get classes one ≡ slice_get classes other

-- each class has a state by which it is known
pub record IsInhabited (classes members : List ℕ) : Type 0 where
  pub within : (state class : ℕ) → slice_get classes state ≡ Some class → class < length members
  pub member : (class state : ℕ) → slice_get members class ≡ Some state → slice_get classes state ≡ Some class

-- the state to which the bits lead from a state; from a place of no state to 0
abbrev pub behind : Content Sign → Option (StateOf Sign) → Bits → ℕ
behind content None bits = 0
behind content (Some state) bits = leaf_of content.nodes state.next bits

abbrev pub next_by : Content Sign → ℕ → Bits → ℕ
next_by content state bits = behind content (slice_get content.states state) bits

-- the same bits lead from both states to states of one class
abbrev pub LeadAlike : Content Sign → List ℕ → ℕ → ℕ → Type 0
LeadAlike content classes one other = (bits : Bits) → HaveOneClass classes (next_by content one bits) (next_by content other bits)

-- states of one class have one sign, and states with equal residuals have one class
pub record IsPartition (content : Content Sign) (classes members : List ℕ) : Type 0 where
  pub all : length classes ≡ length content.states
  pub inhabited : IsInhabited classes members
  pub signs : (one other : ℕ) → one < length content.states → other < length content.states → HaveOneClass classes one other → sign_at content one ≡ sign_at content other
  pub kept : (one other : ℕ) → one < length content.states → other < length content.states → HaveEqualResiduals content one other → HaveOneClass classes one other

-- and states of one class lead alike, so that they have equal residuals
pub record AreNerodeClasses (content : Content Sign) (classes members : List ℕ) : Type 0 where
  pub partition : IsPartition content classes members
  pub stable : (one other : ℕ) → one < length content.states → other < length content.states → HaveOneClass classes one other → LeadAlike content classes one other

-- a pass over all states has split the classes of a partition; where it has split none, states of one class lead alike
pub record IsPassed (content : Content Sign) (classes members made made_members : List ℕ) : Type 0 where
  pub partition : IsPartition content made made_members
  pub more : length members ≤ length made_members
  pub stable : length made_members ≡ length members → AreNerodeClasses content classes members

-- states have equal marks exactly where they lead alike
pub record AreMarks (content : Content Sign) (classes marks : List ℕ) : Type 0 where
  pub all : length marks ≡ length content.states
  pub alike : (one other : ℕ) → one < length content.states → other < length content.states → LeadAlike content classes one other → slice_get marks one ≡ slice_get marks other
  pub apart : (one other : ℕ) → one < length content.states → other < length content.states → slice_get marks one ≡ slice_get marks other → LeadAlike content classes one other

-- states have equal marks exactly where they have one sign
pub record AreSignMarks (content : Content Sign) (marks : List ℕ) : Type 0 where
  pub all : length marks ≡ length content.states
  pub below : (state mark : ℕ) → slice_get marks state ≡ Some mark → mark < 4
  pub alike : (one other : ℕ) → one < length content.states → other < length content.states → sign_at content one ≡ sign_at content other → slice_get marks one ≡ slice_get marks other
  pub apart : (one other : ℕ) → one < length content.states → other < length content.states → slice_get marks one ≡ slice_get marks other → sign_at content one ≡ sign_at content other
