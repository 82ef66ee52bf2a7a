-- The order of words, and the first word of a sign: the shortest, and among these the least by its truth values and then
-- letter by letter.
use Rattle.std.specs.Prelude.{◌≡◌, ◌<◌, ◌⊎◌, Bool, List, ◌++◌, length, Some}
use Rattle.std.specs.List.{flat_map}
use Rattle.ms_list.specs.declared.word.Word.{Word}
use Rattle.ms_logic.specs.First.{IsLower}
use Rattle.ms_logic_words.specs.Content.{Content, IsWordOver, sign_of}

-- the truth values, and then the letters, as one list of bits
abbrev pub bits_of_word : Word → List Bool
bits_of_word word = word.truth ++ flat_map (λ letter. letter) word.letters

-- the first word comes before the second: it has fewer letters, or as many and is lower at the first bit where they differ
abbrev pub IsWordBefore : Word → Word → Type 0
IsWordBefore word other =
    (length word.letters < length other.letters)
    ⊎ ((length word.letters ≡ length other.letters) × IsLower (bits_of_word word) (bits_of_word other))

-- the first word of a sign
pub record IsFirstWord {Sign : Type 0} (content : Content Sign) (sign : Sign) (word : Word) : Type 0 where
  pub over : IsWordOver content.variables word
  pub has_sign : sign_of content word ≡ Some sign
  pub none_before : (other : Word) → IsWordOver content.variables other → sign_of content other ≡ Some sign → ¬ IsWordBefore other word

-- no word has the sign
abbrev pub NoWordHas : {Sign : Type 0} → Content Sign → Sign → Type 0
NoWordHas content sign = (word : Word) → IsWordOver content.variables word → ¬ (sign_of content word ≡ Some sign)
