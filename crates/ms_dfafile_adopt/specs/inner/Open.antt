-- Whether zeros at the end of a word change its sign.
use Rattle.std.specs.Prelude.{◌≡◌, ◌≢◌, ℕ, List, length, slice_get, Some}
use Rattle.ms_list.specs.declared.word.Word.{Word}
use Rattle.ms_logic.specs.declared.mode.Mode.{Mode}
use Rattle.ms_logic.specs.declared.mode.Mode.TheVariants.{Ws1s, M2lStr}
use Rattle.ms_logic_words.specs.declared.sign.Sign.{Sign}
use Rattle.ms_logic_words.specs.declared.sign.Sign.TheVariants.{Yes, No, Undefined, Outside}
use Rattle.ms_logic_words.specs.Content.{StateOf, Content, IsWordOver, next_state, sign_at, sign_of, with_zero_letter, zero_letter}
use Rattle.ms_logic_words.specs.Word.{IsEncoding}
use Rattle.ms_dfa.specs.declared.state.State.{State}
use Rattle.ms_best.specs.FirstWord.{IsWordBefore}
use Rattle.ms_dfafile_adopt.specs.declared.in_mode.NotInMode.{NotInMode}
use Rattle.ms_dfafile_adopt.specs.declared.in_mode.NotInMode.TheVariants.{Open, Memory}

-- Yes where the sign is another than that behind a zero letter, else No; a word that encodes no assignment stays Outside
abbrev pub change_sign : Sign → Sign → Sign
change_sign Outside behind = Outside
change_sign Yes Yes = No
change_sign No No = No
change_sign Undefined Undefined = No
change_sign sign behind = Yes

-- each of some states leads where that of the content does, and has the sign that tells whether a zero letter changes its
-- own
abbrev pub ChangesEach : Content Sign → List State → Type 0
ChangesEach content states =
    (place : ℕ) (was : StateOf Sign) (is : State) (behind : Sign) → slice_get content.states place ≡ Some was → slice_get states place ≡ Some is
    → sign_at content (next_state content place (zero_letter content.variables)) ≡ Some behind
    → (is.next ≡ was.next) × (is.sign ≡ change_sign was.sign behind)

-- the states of a content with these signs
pub record AreChanges (content : Content Sign) (states : List State) : Type 0 where
  pub long : length states ≡ length content.states
  pub each : ChangesEach content states

-- the word encodes an assignment, and with one zero letter more it has another sign
abbrev pub ShowsChange : Content Sign → Word → Type 0
ShowsChange content word =
    IsEncoding M2lStr content.variables word × (sign_of content word ≢ sign_of content (with_zero_letter content.variables word))

-- Yes at just these words
pub record TellsChanges (content made : Content Sign) : Type 0 where
  pub variables_are : made.variables ≡ content.variables
  pub yes : (word : Word) → IsWordOver content.variables word → sign_of made word ≡ Some Yes → ShowsChange content word
  pub shown : (word : Word) → ShowsChange content word → sign_of made word ≡ Some Yes

-- the first word with which one zero letter more changes the sign
pub record IsFirstChange (content : Content Sign) (word : Word) : Type 0 where
  pub shows : ShowsChange content word
  pub none_before : (other : Word) → ShowsChange content other → ¬ IsWordBefore other word

-- there is none
abbrev pub ShowsNoChange : Content Sign → Type 0
ShowsNoChange content = (word : Word) → ¬ ShowsChange content word

-- the same automaton in a mode; in WS1S no zero letter more changes a sign
pub record IsInMode (mode : Mode) (content made : Content Sign) : Type 0 where
  pub same : made ≡ record content { mode = mode }
  pub none : mode ≡ Ws1s → ShowsNoChange content

-- why an automaton over strings is none over all numbers: the first word with which one zero letter more changes the sign, or
-- memory was refused
abbrev pub IsNotInMode : Mode → Content Sign → NotInMode → Type 0
IsNotInMode mode content (Open word) = (mode ≡ Ws1s) × IsFirstChange content word
IsNotInMode mode content Memory = Unit {0}
