-- How the states of an automaton correspond to those of a content that says the same.
use Rattle.std.specs.Prelude.{◌≡◌, ℕ, ◌+◌, ◌<◌, Bool, List, length}
use Rattle.ms_arena.specs.declared.node.Ref.{Ref}
use Rattle.ms_arena.specs.declared.node.Ref.TheVariants.{Leaf, Inner}
use Rattle.ms_arena.specs.Diagram.{Bits, leaf_of}
use Rattle.ms_logic_words.specs.Content.{AreLetters, Content, NamesPart, sign_at, state_after}
use Rattle.ms_logic_words.specs.declared.sign.Sign.{Sign}

module _ (one other : Content Sign) where
  -- behind both states all letters lead to one sign
  pub record IsMatch (p q : ℕ) : Type 0 where
    pub within : p < length one.states
    pub signs : (letters : List (List Bool)) → AreLetters one.variables letters → sign_at one (state_after one p letters) ≡ sign_at other (state_after other q letters)

  -- all bits lead from both references to states that match
  abbrev pub LeadToMatches : Ref → Ref → Type 0
  LeadToMatches root canonical = (bits : Bits) → IsMatch (leaf_of one.nodes root bits) (leaf_of other.nodes canonical bits)

-- a number for each part of a content
abbrev pub number_of_part : Content Sign → Ref → ℕ
number_of_part content (Inner place) = place
number_of_part content (Leaf state) = length content.nodes + state

-- a function that leads to states which match those to which a part of the content leads
pub record IsMatchedBy (one other : Content Sign) (leads : Bits → ℕ) (number : ℕ) : Type 0 where
  pub part : Ref
  pub named : NamesPart other part
  pub is : number ≡ number_of_part other part
  pub matches : (bits : Bits) → IsMatch one other (leads bits) (leaf_of other.nodes part bits)
