-- What the automaton of fewest states needs: numbers of classes of states, and nodes that lead to them.
use Rattle.std.specs.Prelude.{◌≡◌, ◌⊎◌, ℕ, ◌+◌, ◌<◌, ◌≤◌, List, length, slice_get, Some}
use Rattle.ms_list.specs.declared.word.Word.{Word}
use Rattle.ms_arena.specs.declared.node.Node.{Node}
use Rattle.ms_arena.specs.Diagram.{IsOrdered, IsReduced, leaf_of}
use Rattle.ms_arena.specs.Target.{IsNeeded}
use Rattle.ms_diagram.specs.Numbering.{IsNumbering}
use Rattle.ms_logic_words.specs.declared.sign.Sign.{Sign}
use Rattle.ms_logic_words.specs.Content.{Content, IsWordOver, last_state}
use Rattle.ms_minim.specs.inner.Partition.{next_by}
use Rattle.ms_minim.specs.inner.Quotient.{IsNumberOf}

-- the node is needed to lead to the numbers of the states to which bits lead from the start, or from a state to which a word leads
abbrev pub IsNeededBehindWord : Content Sign → List ℕ → List (ℕ × ℕ) → List Node → Node → Type 0
IsNeededBehindWord content classes numbers nodes node =
    IsNeeded nodes (λ bits number. IsNumberOf classes numbers (leaf_of content.nodes content.start bits) number) node
    ⊎ ((word : Word) × IsWordOver content.variables word
    × IsNeeded nodes (λ bits number. IsNumberOf classes numbers (next_by content (last_state content word) bits) number) node)

-- numbers of classes, to a state of each of which some word leads, and nodes that differ in their functions, each of which is needed to
-- lead to such numbers behind a word: together they are at least so many
pub record NeedsAtLeast (count : ℕ) (content : Content Sign) : Type 0 where
  pub classes : List ℕ
  pub numbers : List (ℕ × ℕ)
  pub nodes : List Node
  pub numbering : IsNumbering numbers
  pub reached :
      (number : ℕ) → number < length numbers
      → (word : Word) × IsWordOver content.variables word × IsNumberOf classes numbers (last_state content word) number
  pub ordered : IsOrdered nodes
  pub reduced : IsReduced nodes
  pub needed : (place : ℕ) (node : Node) → slice_get nodes place ≡ Some node → IsNeededBehindWord content classes numbers nodes node
  pub many : count ≤ length nodes + length numbers
