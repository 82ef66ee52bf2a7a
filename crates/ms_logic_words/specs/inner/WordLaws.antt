-- Laws of words and the assignments that they encode.
use Rattle.std.specs.Prelude.{◌≡◌, ◌≤◌, List, length, None}
use Rattle.ms_list.specs.declared.word.Word.{Word}
use Rattle.ms_logic.specs.declared.mode.Mode.{Mode}
use Rattle.ms_logic.specs.Assignment.{Env, Variable, IsAssignment}
use Rattle.ms_logic_words.specs.Content.{IsWordOver, with_zero_letter, shortest_word}
use Rattle.ms_logic.specs.First.{length_of}
use Rattle.ms_logic_words.specs.Word.{Encodes}

-- a word that encodes values of variables is a word over these variables
abbrev pub EncodingIsOver : Type 0
EncodingIsOver = (variables : List Variable) (word : Word) (e : Env) → Encodes variables word e → IsWordOver variables word

-- an assignment is encoded by a word of its own length, and by none that is shorter
abbrev pub LengthIsLeast : Type 0
LengthIsLeast =
    (mode : Mode) (variables : List Variable) (e : Env) → IsAssignment mode variables e
    → Encodes variables (shortest_word variables e) e × (length (shortest_word variables e).letters ≡ length_of variables e)
    × ((word : Word) → Encodes variables word e → length_of variables e ≤ length word.letters)

-- in WS1S a zero letter more at the end of a word encodes the same values
abbrev pub ZeroLetterKeeps : Type 0
ZeroLetterKeeps =
    (variables : List Variable) (word : Word) (e : Env) → e.universe ≡ None → Encodes variables word e → Encodes variables (with_zero_letter variables word) e

-- values are encoded by one word of a length at most, and so by exactly one of the least length
abbrev pub WordIsUnique : Type 0
WordIsUnique =
    (variables : List Variable) (word other : Word) (e : Env) → Encodes variables word e → Encodes variables other e
    → length word.letters ≡ length other.letters → word ≡ other
