-- Shortest words to the states of a content.
use Rattle.std.specs.Prelude.{◌≡◌, ℕ, ◌≤◌, List, length, slice_get, Some}
use Rattle.ms_list.specs.declared.word.Word.{Word}
use Rattle.ms_dfa.specs.declared.plain.FileSign.{FileSign}
use Rattle.ms_logic_words.specs.Content.{Content, IsWordOver, last_state}

-- no word over the variables that leads to a state is shorter than the word of the state
abbrev pub AreShortest : Content FileSign → List Word → Type 0
AreShortest content words =
    (state : ℕ) (word other : Word) → slice_get words state ≡ Some word → IsWordOver content.variables other → last_state content other ≡ state
    → length word.letters ≤ length other.letters
