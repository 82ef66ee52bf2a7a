-- The most letters of the words of the states below a reference. Only the contracts and proofs inside this crate cite it.
use Rattle.std.specs.Prelude.{◌≡◌, ℕ, ◌+◌, ◌<◌, ◌≤◌, List, length, min, slice_get, slice_index, Option, Some, None}
use Rattle.ms_list.specs.declared.word.Word.{Word}
use Rattle.ms_arena.specs.declared.node.Node.{Node}
use Rattle.ms_arena.specs.declared.node.Ref.{Ref}
use Rattle.ms_arena.specs.declared.node.Ref.TheVariants.{Leaf, Inner}
use Rattle.ms_arena.specs.Diagram.{Bits, leaf_of}
use Rattle.ms_dfa.specs.declared.plain.FileState.{FileState}
use Rattle.ms_dfa.specs.declared.plain.Plain.{Plain}

abbrev pub letters_in : Option Word → ℕ
letters_in None = 0
letters_in (Some word) = length word.letters

-- how many letters the word of a state has
abbrev pub letters_to : List Word → ℕ → ℕ
letters_to words state = letters_in (slice_get words state)

-- all states to which bits lead from a reference have so many letters at most, and one has as many
pub record IsMost (nodes : List Node) (words : List Word) (reference : Ref) (most : ℕ) : Type 0 where
  pub above : (bits : Bits) → letters_to words (leaf_of nodes reference bits) ≤ most
  pub bits : Bits
  pub there : letters_to words (leaf_of nodes reference bits) ≡ most

-- the same of the first so many nodes
pub record AreMost (nodes : List Node) (words : List Word) (known : List ℕ) (count : ℕ) : Type 0 where
  pub long : length known ≡ count
  pub each : (place : ℕ) → place < count → IsMost nodes words (Inner place) (slice_index known place)

-- what is known of a reference
abbrev pub most_at : List Word → List ℕ → Ref → ℕ
most_at words known (Leaf state) = letters_to words state
most_at words known (Inner place) = slice_index known place

-- a reference names a state with a word, or a node of which the most is known
abbrev pub IsKnown : List Word → List ℕ → Ref → Type 0
IsKnown words known (Leaf state) = state < length words
IsKnown words known (Inner place) = place < length known

-- what a state's reference leads to has one letter more at most than the state's word
abbrev pub HasSteps : Plain → List Word → List ℕ → Type 0
HasSteps plain words known =
    (place : ℕ) (word : Word) (state : FileState) → slice_get words place ≡ Some word → slice_get plain.states place ≡ Some state
    → most_at words known state.next ≤ length word.letters + 1

-- the lesser of a length, if there is one, and another
abbrev pub IsLesser : Option ℕ → ℕ → ℕ → Type 0
IsLesser None count result = result ≡ count
IsLesser (Some best) count result = result ≡ min best count
