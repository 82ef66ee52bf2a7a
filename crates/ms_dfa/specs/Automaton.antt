-- What contracts see of an automaton, and what is true of each.
use Rattle.std.specs.Prelude.{◌≡◌, ◌≢◌, ◌↔◌, ◌≤◌, List, length, map, Some}
use Rattle.ms_list.specs.declared.word.Word.{Word}
use Rattle.ms_arena.specs.declared.node.Ref.{Ref}
use Rattle.ms_arena.specs.declared.node.Node.{Node}
use Rattle.ms_arena.specs.Diagram.{IsOrdered, IsReduced}
use Rattle.ms_logic.specs.declared.mode.Mode.{Mode}
use Rattle.ms_logic.specs.declared.mode.Mode.TheVariants.{Ws1s}
use Rattle.ms_logic.specs.Assignment.{Variable}
use Rattle.ms_logic.specs.Lists.{AreRising}
use Rattle.ms_logic_words.specs.Word.{IsEncoding}
use Rattle.ms_logic_words.specs.Content.{StateOf, Content, IsWordOver, IsClosed, sign_of, with_zero_letter}
use Rattle.ms_logic_words.specs.declared.sign.Sign.{Sign}
use Rattle.ms_logic_words.specs.declared.sign.Sign.TheVariants.{Outside}
use Rattle.ms_dfa.specs.declared.track.Track.{Track}
use Rattle.ms_dfa.specs.declared.state.State.{State}

-- the variable of a track
abbrev pub variable_of : Track → Variable
variable_of track = record { name = track.variable; order = track.order }

abbrev pub variables_of : List Track → List Variable
variables_of tracks = map variable_of tracks

-- a state without where it lies
abbrev pub state_of : State → StateOf Sign
state_of state = record { sign = state.sign; next = state.next }

abbrev pub states_of : List State → List (StateOf Sign)
states_of states = map state_of states

-- the content of the parts of an automaton
abbrev pub content_of : List Node → Mode → List Track → Ref → List State → Content Sign
content_of nodes mode tracks start states =
    record { mode = mode; variables = variables_of tracks; start = start; states = states_of states; nodes = nodes }

-- the sign of a word is another than Outside exactly where the word encodes an assignment
abbrev pub TellsEncodings : Content Sign → Type 0
TellsEncodings content =
    (word : Word) → IsWordOver content.variables word
    → IsEncoding content.mode content.variables word ↔ (sign_of content word ≢ Some Outside)

-- in WS1S zeros at the end of a word that encodes an assignment do not change the sign
abbrev pub IsSettled : Content Sign → Type 0
IsSettled content =
    content.mode ≡ Ws1s → (word : Word) → IsWordOver content.variables word → IsEncoding Ws1s content.variables word
    → sign_of content (with_zero_letter content.variables word) ≡ sign_of content word

-- what is true of each automaton
pub record IsAutomaton (content : Content Sign) : Type 0 where
  pub ordered : IsOrdered content.nodes
  pub reduced : IsReduced content.nodes
  pub closed : IsClosed content
  pub rising : AreRising content.variables
  pub few_states : length content.states ≤ 4294967295
  pub encodings : TellsEncodings content
  pub settled : IsSettled content
