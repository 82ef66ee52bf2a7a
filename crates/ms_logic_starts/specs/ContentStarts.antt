-- What starts over the variables of a content leave of it: its states and nodes that are reached, and nothing else.
use Rattle.std.specs.Prelude.{◌≡◌, ◌⊎◌, ℕ, ◌<◌, List, length, slice_get, Some}
use Rattle.ms_list.specs.declared.word.Word.{Word}
use Rattle.ms_arena.specs.declared.node.Ref.{Ref}
use Rattle.ms_arena.specs.declared.node.Ref.TheVariants.{Leaf, Inner}
use Rattle.ms_arena.specs.Diagram.{Bits, leaf_of, IsReduced}
use Rattle.ms_arena.specs.Reach.{Reaches}
use Rattle.ms_logic.specs.Assignment.{Variable}
use Rattle.ms_logic.specs.Lists.{AreRising}
use Rattle.ms_logic_words.specs.Canonical.{IsCanonical}
use Rattle.ms_logic_words.specs.Content.{StateOf, Content, IsContent, IsWordOver, last_state}
use Rattle.ms_logic_measures.specs.CallMeasures.{IsNumberOf, HasReachedParts}
use Rattle.ms_logic_measures.specs.FullContent.{part_count}
use Rattle.ms_logic_measures.specs.Starts.{Start, IsStartOver, left_by}

-- no two of the variables have one number
abbrev pub HaveDistinctNumbers : List Variable → Type 0
HaveDistinctNumbers variables =
    (one two : ℕ) (v w : Variable) → slice_get variables one ≡ Some v → slice_get variables two ≡ Some w → v.name ≡ w.name → one ≡ two

module _ {Sign : Type 0} (content : Content Sign) where
  -- a word leads to the state
  abbrev pub IsReachedState : ℕ → Type 0
  IsReachedState state = (word : Word) × IsWordOver content.variables word × (last_state content word ≡ state)

  -- a path leads to the node, from the start or from a state to which a word leads
  abbrev pub IsReachedNode : ℕ → Type 0
  IsReachedNode place =
      Reaches content.nodes content.start place
      ⊎ ((i : ℕ) × (state : StateOf Sign) × IsReachedState i × (slice_get content.states i ≡ Some state) × Reaches content.nodes state.next place)

  -- a state of the content that is reached, or such a node
  abbrev pub IsReachedPart : Ref → Type 0
  IsReachedPart (Leaf state) = (state < length content.states) × IsReachedState state
  IsReachedPart (Inner place) = IsReachedNode place

  -- what the start leaves is the function of the reference
  abbrev pub StartLeaves : Start → Ref → Type 0
  StartLeaves start reference = (rest : Bits) → left_by content content.variables start rest ≡ leaf_of content.nodes reference rest

  -- a content with the rules of a file, no two of whose variables have one number
  pub record HasDistinctVariables : Type 0 where
    pub rules : IsContent content
    pub distinct : HaveDistinctNumbers content.variables

-- variables with rising numbers are distinct
abbrev pub RisingNumbersAreDistinct : Type 0
RisingNumbersAreDistinct = (variables : List Variable) → AreRising variables → HaveDistinctNumbers variables

-- each start leaves a part that is reached
abbrev pub StartsLeaveParts : Type 0 → Type 0
StartsLeaveParts Sign =
    (content : Content Sign) → HasDistinctVariables content → (start : Start) → IsStartOver content.variables start
    → (reference : Ref) × IsReachedPart content reference × StartLeaves content start reference

-- and each such part is left by some start
abbrev pub PartsAreLeft : Type 0 → Type 0
PartsAreLeft Sign =
    (content : Content Sign) → HasDistinctVariables content → (reference : Ref) → IsReachedPart content reference
    → (start : Start) × IsStartOver content.variables start × StartLeaves content start reference

-- so where the diagrams are reduced, starts lead to as many references as there are reached parts
abbrev pub ReachedPartsAreCounted : Type 0 → Type 0
ReachedPartsAreCounted Sign =
    (content : Content Sign) → HasDistinctVariables content → IsReduced content.nodes
    → (n : ℕ) → IsNumberOf (λ one other. one ≡ other) (IsReachedPart content) n → HasReachedParts content n

-- of a canonical content these are all its states and nodes
abbrev pub CanonicalContentsAreReached : Type 0 → Type 0
CanonicalContentsAreReached Sign =
    (content : Content Sign) → IsCanonical content → HaveDistinctNumbers content.variables → HasReachedParts content (part_count content)
