-- What a certificate proves of an automaton: how many states it has, which are the fewest, and how long its shortest words are.
use Rattle.std.specs.Prelude.{◌≡◌, ◌≢◌, ℕ, ◌≤◌, Option, Some, None, length}
use Rattle.ms_list.specs.declared.word.Word.{Word}
use Rattle.ms_dfa.specs.declared.plain.FileSign.{FileSign}
use Rattle.ms_dfa.specs.declared.plain.FileSign.TheVariants.{Plus, Minus}
use Rattle.ms_logic_words.specs.Content.{Content, IsWordOver, sign_of}
use Rattle.ms_cert.specs.declared.cert.Proven.{Proven}

module _ (content : Content FileSign) where
  -- some word of the sign has so many letters, and none has fewer
  pub record IsLeastLength (sign : FileSign) (count : ℕ) : Type 0 where
    pub word : Word
    pub over : IsWordOver content.variables word
    pub has_sign : sign_of content word ≡ Some sign
    pub letters : length word.letters ≡ count
    pub least : (other : Word) → IsWordOver content.variables other → sign_of content other ≡ Some sign → count ≤ length other.letters

  -- the number of letters of a shortest word of the sign, and none where no word has it
  abbrev pub IsShortest : FileSign → Option ℕ → Type 0
  IsShortest sign None = (word : Word) → IsWordOver content.variables word → sign_of content word ≢ Some sign
  IsShortest sign (Some count) = IsLeastLength sign count

  pub record IsProven (proven : Proven) : Type 0 where
    pub states : proven.states ≡ length content.states
    pub plus : IsShortest Plus proven.plus
    pub minus : IsShortest Minus proven.minus
