-- The quotient of an automaton by classes of its states: its states are the classes that are reached, and get numbers at
-- first sight.
use Rattle.std.specs.Prelude.{◌≡◌, ℕ, ◌≤◌, List, length, slice_get, slice_index, Option, Some, None}
use Rattle.ms_list.specs.declared.word.Word.{Word}
use Rattle.ms_arena.specs.declared.node.Ref.{Ref}
use Rattle.ms_arena.specs.Diagram.{Bits, leaf_of}
use Rattle.ms_arena.specs.Target.{Target, Extends}
use Rattle.ms_diagram.specs.Numbering.{IsNumbering}
use Rattle.ms_minim.specs.SignReading.{IsRead}
use Rattle.ms_logic_words.specs.declared.sign.Sign.{Sign}
use Rattle.ms_logic_words.specs.declared.sign.Sign.TheVariants.{Outside}
use Rattle.ms_logic_words.specs.Content.{Content, IsWordOver, last_state, sign_at}
use Rattle.ms_dfa_explore.specs.Explored.{Findings}
use Rattle.ms_minim.specs.inner.Partition.{IsIdentity, AreNerodeClasses, next_by}
use Rattle.ms_logic_words.specs.Signs.{sign_or_outside}

-- the number of the class of a state
pub record IsNumberOf (classes : List ℕ) (pairs : List (ℕ × ℕ)) (state number : ℕ) : Type 0 where
  pub class : ℕ
  pub class_is : slice_get classes state ≡ Some class
  pub number_is : slice_get pairs number ≡ Some (class, 0)

-- the state by which the class of a number is known
pub record IsMemberOf (members : List ℕ) (pairs : List (ℕ × ℕ)) (number state : ℕ) : Type 0 where
  pub class : ℕ
  pub number_is : slice_get pairs number ≡ Some (class, 0)
  pub member_is : slice_get members class ≡ Some state

-- each class has its own number
abbrev pub HaveOwnNumbers : List ℕ → List (ℕ × ℕ) → Type 0
HaveOwnNumbers classes pairs = (state class : ℕ) → slice_get classes state ≡ Some class → slice_get pairs class ≡ Some (class, 0)

-- from a reference of the automaton to the number of the class of its leaf
abbrev pub NumberBehind : Content Sign → List ℕ → List (ℕ × ℕ) → Ref → Target
NumberBehind content classes pairs root = λ bits number. IsNumberOf classes pairs (leaf_of content.nodes root bits) number

-- the pair of a class to which some bits lead from the reference
abbrev pub IsClassBehind : Content Sign → List ℕ → Ref → ℕ × ℕ → Type 0
IsClassBehind content classes root pair = (bits : Bits) × (slice_get classes (leaf_of content.nodes root bits) ≡ Some pair.0) × (pair.1 ≡ 0)

-- the sign of the state by which the class of a number is known
abbrev pub sign_of_number : Content Sign → List ℕ → Option (ℕ × ℕ) → Sign
sign_of_number content members None = Outside
sign_of_number content members (Some pair) = sign_or_outside (sign_at content (slice_index members pair.0))

-- where a number leads: from the state by which its class is known
pub record LeadsOn (content : Content Sign) (classes members : List ℕ) (pairs : List (ℕ × ℕ)) (number : ℕ) (bits : Bits) (later : ℕ) : Type 0 where
  pub state : ℕ
  pub member : IsMemberOf members pairs number state
  pub leads : IsNumberOf classes pairs (next_by content state bits) later

-- what is found of the quotient, so far as classes have numbers
abbrev pub quotient_findings : Content Sign → List ℕ → List ℕ → List (ℕ × ℕ) → Findings
quotient_findings content classes members pairs = record {
  count = length pairs;
  starts = NumberBehind content classes pairs content.start;
  steps = LeadsOn content classes members pairs;
  sign_of = λ number. sign_of_number content members (slice_get pairs number);
  most_nodes = 4000000000;
  LacksNumber = ⊥;
}

-- some word leads to a state of the class
pub record IsReached (content : Content Sign) (classes : List ℕ) (class : ℕ) : Type 0 where
  pub word : Word
  pub over : IsWordOver content.variables word
  pub ends : slice_get classes (last_state content word) ≡ Some class

-- the numbered pairs are those of classes that are reached
abbrev pub AreReached : Content Sign → List ℕ → List (ℕ × ℕ) → Type 0
AreReached content classes pairs = (number : ℕ) (pair : ℕ × ℕ) → slice_get pairs number ≡ Some pair → IsReached content classes pair.0 × (pair.1 ≡ 0)

-- a quotient under way
pub record Quotienting : Type 0 where
  pub content : Content Sign
  pub classes : List ℕ
  pub members : List ℕ
  pub places : List ℕ
  pub pairs : List (ℕ × ℕ)

-- what is found of it
abbrev pub findings_of : Quotienting → Findings
findings_of quotient = quotient_findings quotient.content quotient.classes quotient.members quotient.pairs

-- what is true of each
pub record IsQuotient (content : Content Sign) (classes members map : List ℕ) (pairs : List (ℕ × ℕ)) : Type 0 where
  pub automaton : IsRead content
  pub nerode : AreNerodeClasses content classes members
  pub identity : IsIdentity (length content.variables) map
  pub numbering : IsNumbering pairs
  pub reached : AreReached content classes pairs

-- the same quotient with more numbers
pub record IsLaterQuotient (early late : Quotienting) : Type 0 where
  pub same : late ≡ record early { pairs = late.pairs }
  pub pairs : Extends early.pairs late.pairs
  pub count : length early.pairs ≤ length late.pairs
