-- Words by levels: what a search has reached. Only the contracts and proofs inside this crate cite it.
use Rattle.std.specs.Prelude.{◌≡◌, ℕ, ◌+◌, ◌<◌, ◌≤◌, Bool, true, List, [], ◌∷◌, ◌++◌, length, slice_get, slice_set, Some}
use Rattle.ms_list.specs.declared.word.Word.{Word}
use Rattle.ms_arena.specs.declared.node.Node.{Node}
use Rattle.ms_arena.specs.declared.node.Ref.{Ref}
use Rattle.ms_arena.specs.declared.node.Ref.TheVariants.{Leaf, Inner}
use Rattle.ms_arena.specs.Diagram.{Bits, leaf_of}
use Rattle.ms_dfa.specs.Narrow.{gathered}
use Rattle.ms_dfa.specs.declared.part.Part.{Part}
use Rattle.ms_dfa.specs.declared.part.Part.TheVariants.{Truth, Letters}
use Rattle.ms_dfa.specs.declared.plain.FileSign.{FileSign}
use Rattle.ms_logic.specs.Assignment.{Variable}
use Rattle.ms_logic_words.specs.Content.{Content, IsWordOver, StateOf, is_in_letters, is_truth_value, last_state}
use Rattle.ms_cert.specs.declared.levels.Found.{Found}
use Rattle.ms_cert.specs.inner.Lengths.{letters_to}

-- the word that bits of the variables make: from the start one without letters, and behind a word one with a letter more
abbrev pub made_word : Part → Word → List Variable → Bits → Word
made_word Truth from variables bits = record { truth = gathered is_truth_value 0 variables bits; letters = [] }
made_word Letters from variables bits = record { truth = from.truth; letters = from.letters ++ gathered is_in_letters 0 variables bits ∷ [] }

-- how many letters it has
abbrev pub level_of : Part → Word → ℕ
level_of Truth from = 0
level_of Letters from = length from.letters + 1

-- the words of the states that are known, the nodes that were seen, and the states that are known, in their order
pub record Reached : Type 0 where
  pub words : List Word
  pub known : List Bool
  pub seen : List Bool
  pub order : List ℕ

abbrev pub reached_of : Found → Reached
reached_of found = record { words = found.words.items; known = found.known.items; seen = found.seen.items; order = found.order.items }

-- what is reached once a state's word is written, and once a node is marked
abbrev pub with_word : Reached → ℕ → Word → Reached
with_word reached state word = record {
  words = slice_set reached.words state word;
  known = slice_set reached.known state true;
  seen = reached.seen;
  order = reached.order ++ state ∷ [];
}

abbrev pub with_node : Reached → ℕ → Reached
with_node reached place = record reached { seen = slice_set reached.seen place true }

abbrev pub IsKnown : Reached → ℕ → Type 0
IsKnown reached state = slice_get reached.known state ≡ Some true

-- the words that are known have so many letters at most
abbrev pub AreUpTo : ℕ → Reached → Type 0
AreUpTo level reached = (state : ℕ) → IsKnown reached state → letters_to reached.words state ≤ level

-- what is known stays
pub record IsKept (one two : Reached) : Type 0 where
  pub known : (state : ℕ) → IsKnown one state → IsKnown two state
  pub words : (state : ℕ) → IsKnown one state → slice_get two.words state ≡ slice_get one.words state
  pub order : (place state : ℕ) → slice_get one.order place ≡ Some state → slice_get two.order place ≡ Some state

module _ (content : Content FileSign) where
  -- a word over the variables, whose run ends in the state
  pub record IsWordTo (state : ℕ) (word : Word) : Type 0 where
    pub over : IsWordOver content.variables word
    pub ends : last_state content word ≡ state

  -- and that has so many letters
  pub record IsWordOf (level state : ℕ) (word : Word) : Type 0 where
    pub word_to : IsWordTo state word
    pub long : length word.letters ≡ level

  -- bits agree at the variables above all that a reference tests
  abbrev pub AgreeBefore : Ref → Bits → Bits → Type 0
  AgreeBefore (Leaf state) one other = (place : ℕ) → one place ≡ other place
  AgreeBefore (Inner at) one other = (node : Node) → slice_get content.nodes at ≡ Some node → (place : ℕ) → place < node.var → one place ≡ other place

  -- all bits that lead on from a reference make words of the states to which they lead
  abbrev pub MakesWords : Part → Word → Bits → Ref → Type 0
  MakesWords part from bits reference =
      (other : Bits) → AgreeBefore reference other bits
      → IsWordOf (level_of part from) (leaf_of content.nodes reference other) (made_word part from content.variables other)

  -- the words of all states to which a reference leads are known
  abbrev pub Leads : Reached → Ref → Type 0
  Leads reached reference = (bits : Bits) → IsKnown reached (leaf_of content.nodes reference bits)

  pub record IsReached (reached : Reached) : Type 0 where
    pub words_count : length reached.words ≡ length content.states
    pub known_count : length reached.known ≡ length content.states
    pub seen_count : length reached.seen ≡ length content.nodes
    pub words : (state : ℕ) (word : Word) → IsKnown reached state → slice_get reached.words state ≡ Some word → IsWordTo state word
    pub seen : (place : ℕ) → slice_get reached.seen place ≡ Some true → Leads reached (Inner place)
    pub listed : (state : ℕ) → IsKnown reached state → (place : ℕ) × (slice_get reached.order place ≡ Some state)
    pub ordered : (place state : ℕ) → slice_get reached.order place ≡ Some state → IsKnown reached state
    -- by levels
    pub rising :
        (early late one other : ℕ) → early ≤ late → slice_get reached.order early ≡ Some one → slice_get reached.order late ≡ Some other
        → letters_to reached.words one ≤ letters_to reached.words other

  -- what the start leads to is known, and what the first so many states lead to by a letter: words by levels, so that no word that
  -- is known has two letters more than one of a state that is still to come
  pub record HasBegun (reached : Reached) (done : ℕ) : Type 0 where
    pub reached_so : IsReached reached
    pub start : Leads reached content.start
    pub start_none : (bits : Bits) → letters_to reached.words (leaf_of content.nodes content.start bits) ≡ 0
    pub early :
        (place state : ℕ) (own : StateOf FileSign) → place < done → slice_get reached.order place ≡ Some state → slice_get content.states state ≡ Some own
        → Leads reached own.next
    pub early_next :
        (place state : ℕ) (own : StateOf FileSign) (bits : Bits) → place < done → slice_get reached.order place ≡ Some state
        → slice_get content.states state ≡ Some own → letters_to reached.words (leaf_of content.nodes own.next bits) ≤ letters_to reached.words state + 1
    pub few :
        (place state : ℕ) → done ≤ place → slice_get reached.order place ≡ Some state
        → AreUpTo (letters_to reached.words state + 1) reached
