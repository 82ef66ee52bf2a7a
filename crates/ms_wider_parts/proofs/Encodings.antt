-- A letter of zeros behind a word does not change whether it encodes an assignment.
use Rattle.std.proofs.Common.{◌++◌, Bool, List, [], ◌∷◌}
use Rattle.ms_list.specs.declared.word.Word.{Word}
use Rattle.ms_logic.specs.Assignment.{Variable}
use Rattle.ms_logic.specs.Lists.{AreRising}
use Rattle.ms_logic.specs.declared.mode.Mode.{Mode}
use Rattle.ms_logic.specs.declared.mode.Mode.TheVariants.{Ws1s}
use Rattle.ms_logic_words.specs.Content.{AreLetters, IsWordOver, with_zero_letter, zero_letter}
use Rattle.ms_logic_words.specs.Word.{IsEncoding}
use Rattle.ms_logic_words.proofs.DecodedWords.{encodings_are}
use Rattle.ms_logic_words.proofs.WordLaws.{encoding_is_over, zero_letter_keeps}
use Rattle.ms_project.proofs.ValueLemmas.{encoding-zeros}
use Rattle.ms_wider_parts.specs.Laws.{ZeroLetterKeepsEncodings}

-- whether a word encodes some assignment does not depend on the mode
in_mode : (mode other : Mode) (variables : List Variable) (word : Word) → AreRising variables → IsEncoding mode variables word → IsEncoding other variables word
in_mode mode other variables word rising encoding = (encodings_are other variables word rising).1 ((encodings_are mode variables word rising).0 encoding)

more_zeros : (variables : List Variable) (word : Word) → IsEncoding Ws1s variables word → IsEncoding Ws1s variables (with_zero_letter variables word)
more_zeros variables word encoding = (encoding.0, encoding.1, zero_letter_keeps variables word encoding.0 encoding.1.universe encoding.2)

-- letters are over variables where they are with one more
fewer : (variables : List Variable) (letters more : List (List Bool)) → AreLetters variables (letters ++ more) → AreLetters variables letters
fewer variables [] more are = tt
fewer variables (letter ∷ letters) more are = (are.0, fewer variables letters more are.1)

less_over : (variables : List Variable) (word : Word) → IsWordOver variables (with_zero_letter variables word) → IsWordOver variables word
less_over variables word over = record { truth = over.truth; letters = fewer variables word.letters (zero_letter variables ∷ []) over.letters }

pub zeros_keep : ZeroLetterKeepsEncodings
zeros_keep mode variables word rising = (
  λ encoding. in_mode Ws1s mode variables (with_zero_letter variables word) rising (more_zeros variables word (in_mode mode Ws1s variables word rising encoding)),
  λ encoding. encoding-zeros mode variables rising 1 word (less_over variables word (encoding_is_over variables (with_zero_letter variables word) encoding.0 encoding.2)) encoding,
)
