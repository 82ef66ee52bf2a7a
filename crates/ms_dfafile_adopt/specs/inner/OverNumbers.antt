-- What a file says, with its numbers.
use Rattle.std.specs.Prelude.{◌≡◌, List}
use Rattle.ms_list.specs.declared.word.Word.{Word}
use Rattle.ms_logic.specs.declared.mode.Mode.TheVariants.{M2lStr}
use Rattle.ms_logic_words.specs.declared.sign.Sign.{Sign}
use Rattle.ms_logic.specs.Assignment.{Variable}
use Rattle.ms_logic_words.specs.Content.{Content, sign_of}
use Rattle.ms_logic_words.specs.Word.{IsEncoding}
use Rattle.ms_dfafile_adopt.specs.Readings.{read_over}

-- over these variables, with the signs that another content has at the words that encode an assignment
pub record IsOverNumbers (said : Content Sign) (variables : List Variable) (content : Content Sign) : Type 0 where
  pub mode_is : content.mode ≡ M2lStr
  pub variables_are : content.variables ≡ variables
  pub signs : (word : Word) → IsEncoding M2lStr variables word → sign_of content word ≡ sign_of (read_over variables said) word
