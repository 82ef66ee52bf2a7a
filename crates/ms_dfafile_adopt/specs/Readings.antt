-- What an automaton file says, as automata over other readings of its variables.
use Rattle.std.specs.Prelude.{◌≡◌, ℕ, ◌<◌, List, slice_get, Some}
use Rattle.std.specs.Option.{option_map}
use Rattle.ms_list.specs.declared.word.Word.{Word}
use Rattle.ms_logic.specs.declared.mode.Mode.{Mode}
use Rattle.ms_logic.specs.declared.mode.Mode.TheVariants.{M2lStr}
use Rattle.ms_logic.specs.declared.mode.Order.TheVariants.{One}
use Rattle.ms_logic.specs.Assignment.{Variable}
use Rattle.ms_logic.specs.Lists.{IsAmong}
use Rattle.ms_logic_words.specs.declared.sign.Sign.{Sign}
use Rattle.ms_logic_words.specs.declared.sign.Sign.TheVariants.{Yes, No, Undefined}
use Rattle.ms_logic_words.specs.Content.{Content, sign_of}
use Rattle.ms_logic_words.specs.Word.{IsEncoding}
use Rattle.ms_dfa.specs.declared.plain.FileSign.{FileSign}
use Rattle.ms_dfa.specs.declared.plain.FileSign.TheVariants as signs
use Rattle.ms_dfa.specs.declared.plain.Plain.{Plain}
use Rattle.ms_dfa.specs.Files.{content_of_file}
use Rattle.ms_dfa.specs.Values.{HasValues}
use Rattle.ms_rename.specs.Whole.{always}
use Rattle.ms_dfafile_adopt.specs.Sets.{as_sets}

-- the sign of an automaton for a sign of a file, where no word is Outside yet
abbrev pub own_sign : FileSign → Sign
own_sign signs.Plus = Yes
own_sign signs.Minus = No
own_sign signs.Zero = Undefined
own_sign signs.Outside = Undefined

-- the variables of a file, by their places
abbrev pub own_variables : Plain → List Variable
own_variables plain = (content_of_file plain).variables

-- a content whose numbers are read as sets, read as numbers
abbrev pub read_over : List Variable → Content Sign → Content Sign
read_over variables content = record content { variables = variables }

-- each word has the sign of the file, where numbers are read as sets
pub record IsOverSets (plain : Plain) (content : Content Sign) : Type 0 where
  pub mode_is : content.mode ≡ M2lStr
  pub variables_are : content.variables ≡ as_sets (own_variables plain)
  pub signs : (word : Word) → sign_of (read_over (own_variables plain) content) word ≡ option_map own_sign (sign_of (content_of_file plain) word)

-- in a mode, each word that encodes an assignment has the sign of the file
pub record AgreesWithFile (plain : Plain) (mode : Mode) (content : Content Sign) : Type 0 where
  pub mode_is : content.mode ≡ mode
  pub variables_are : content.variables ≡ own_variables plain
  pub signs :
      (word : Word) → IsEncoding M2lStr (own_variables plain) word
      → sign_of content word ≡ option_map own_sign (sign_of (content_of_file plain) word)

-- over numbers alone, among them those of the first so many variables: Yes at each word that encodes an assignment of its variables
pub record TellsNumbers (variables : List Variable) (count : ℕ) (content : Content Sign) : Type 0 where
  pub mode_is : content.mode ≡ M2lStr
  pub among : (v : Variable) → IsAmong content.variables v → IsAmong variables v
  pub only_numbers : (v : Variable) → IsAmong content.variables v → v.order ≡ One
  pub numbers : (place : ℕ) (v : Variable) → place < count → slice_get variables place ≡ Some v → v.order ≡ One → IsAmong content.variables v
  pub values : HasValues always content
