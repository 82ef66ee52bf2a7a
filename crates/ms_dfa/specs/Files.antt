-- What contracts see of an automaton file: its content, whose signs are those of a file.
use Rattle.std.specs.Prelude.{◌≡◌, ◌≢◌, ◌↔◌, ℕ, List, map, slice_get, Some}
use Rattle.ms_dfa.specs.declared.plain.FileSign.{FileSign}
use Rattle.ms_dfa.specs.declared.plain.FileSign.TheVariants as signs
use Rattle.ms_dfa.specs.declared.plain.FileState.{FileState}
use Rattle.ms_dfa.specs.declared.plain.FileVersion.{FileVersion}
use Rattle.ms_dfa.specs.declared.plain.FileVersion.TheVariants as versions
use Rattle.ms_dfa.specs.declared.plain.Plain.{Plain}
use Rattle.ms_logic_words.specs.declared.sign.Sign.{Sign}
use Rattle.ms_logic_words.specs.declared.sign.Sign.TheVariants.{Yes, No, Undefined, Outside}
use Rattle.ms_list.specs.declared.word.Word.{Word}
use Rattle.ms_logic_words.specs.Content.{StateOf, Content, IsWordOver, sign_of, variables_by_place}
use Rattle.ms_logic_words.specs.WordSign.{IsOutside}

-- the sign of words that encode no assignment: in version 1 that of words at which a formula has no value, and in version 2 one of its own
abbrev pub sign_outside : FileVersion → FileSign
sign_outside versions.One = signs.Zero
sign_outside versions.Two = signs.Outside

-- the sign in a file of a version
abbrev pub file_sign : FileVersion → Sign → FileSign
file_sign version Yes = signs.Plus
file_sign version No = signs.Minus
file_sign version Undefined = signs.Zero
file_sign version Outside = sign_outside version

abbrev pub file_states_of : List FileState → List (StateOf FileSign)
file_states_of states = map (λ state. record { sign = state.sign; next = state.next }) states

-- the content of a file, with its variables by their places
abbrev pub content_of_file : Plain → Content FileSign
content_of_file plain = record {
  mode = plain.mode;
  variables = variables_by_place (map (λ variable. variable.order) plain.variables);
  start = plain.start;
  states = file_states_of plain.states;
  nodes = plain.nodes;
}

-- no state has the sign x
abbrev pub HasNoOutside : Content FileSign → Type 0
HasNoOutside content = (i : ℕ) (state : StateOf FileSign) → slice_get content.states i ≡ Some state → state.sign ≢ signs.Outside

-- a word has the sign x exactly where it encodes no assignment
abbrev pub MarksOutside : Content FileSign → Type 0
MarksOutside content =
    (word : Word) → IsWordOver content.variables word → (sign_of content word ≡ Some signs.Outside) ↔ IsOutside content.mode content.variables word

-- the signs of a content are as a version has them
abbrev pub HasSignsOf : FileVersion → Content FileSign → Type 0
HasSignsOf versions.One content = HasNoOutside content
HasSignsOf versions.Two content = MarksOutside content
