-- Machines over the bits of at most three tracks, whose states are all known.
use Rattle.std.specs.Prelude.{◌≡◌, ◌≢◌, ◌↔◌, ℕ, zero, suc, ◌+◌, ◌<◌, max, Bool, false, if◌then◌else◌, List, [], ◌∷◌, length, Option, Some, None}
use Rattle.ms_list.specs.declared.word.Word.{Word}
use Rattle.ms_arena.specs.Diagram.{Bits}
use Rattle.ms_arena.specs.Target.{Target}
use Rattle.ms_logic.specs.declared.mode.Mode.{Mode}
use Rattle.ms_logic.specs.declared.mode.Mode.TheVariants.{Ws1s}
use Rattle.ms_logic.specs.declared.mode.Order.{Order}
use Rattle.ms_logic_words.specs.declared.sign.Sign.{Sign}
use Rattle.ms_logic_words.specs.declared.sign.Sign.TheVariants.{Outside}
use Rattle.ms_logic.specs.Assignment.{Variable}
use Rattle.ms_logic_words.specs.Content.{AreLetters, Content, IsWordOver, letter_bits, sign_at, state_after, truth_bits, with_zero_letter}
use Rattle.ms_logic_words.specs.Word.{IsEncoding}
use Rattle.ms_dfa.specs.Machine.{Machine, after, end_of}
use Rattle.ms_dfa_explore.specs.declared.small.TrackBits.{TrackBits}
use Rattle.ms_dfa_explore.specs.Explored.{Findings}

abbrev pub zero_bits : TrackBits
zero_bits = record { first = false; second = false; third = false }

-- the bit of the track at a place, and 0 past the third
abbrev pub bit_at : TrackBits → Bits
bit_at bits zero = bits.first
bit_at bits (suc zero) = bits.second
bit_at bits (suc (suc zero)) = bits.third
bit_at bits (suc (suc (suc place))) = false

-- the same with this bit of the track at a place
abbrev pub with_bit_at : TrackBits → ℕ → Bool → TrackBits
with_bit_at bits zero bit = record bits { first = bit }
with_bit_at bits (suc zero) bit = record bits { second = bit }
with_bit_at bits (suc (suc zero)) bit = record bits { third = bit }
with_bit_at bits (suc (suc (suc place))) bit = bits

-- the origin is the start, or one of so many states
abbrev pub IsState : ℕ → Option ℕ → Type 0
IsState states None = Unit {0}
IsState states (Some state) = state < states

-- where a machine leads from the start, or from a state
abbrev pub lead_by : (TrackBits → ℕ) → (ℕ → TrackBits → ℕ) → Option ℕ → TrackBits → ℕ
lead_by start step None bits = start bits
lead_by start step (Some state) bits = step state bits

-- the bits that are given, with those of the tracks read
abbrev pub read_tracks : List ℕ → TrackBits → Bits → TrackBits
read_tracks [] given bits = given
read_tracks (track ∷ tracks) given bits = read_tracks tracks (with_bit_at given track (bits track)) bits

-- the number to which a function leads by the bits of the tracks and those that are given
abbrev pub Tabulated : (TrackBits → ℕ) → List ℕ → TrackBits → Target
Tabulated lead tracks given = λ bits number. number ≡ lead (read_tracks tracks given bits)

-- as many nodes as a diagram over so many tracks has at most
abbrev pub most_nodes : List ℕ → ℕ
most_nodes [] = 0
most_nodes (track ∷ tracks) = most_nodes tracks + most_nodes tracks + 1

-- the places of the variables with a value, the first of which stands at this place
abbrev pub places_of : (Order → Bool) → ℕ → List Variable → List ℕ
places_of has_value place [] = []
places_of has_value place (v ∷ vs) = if has_value v.order then place ∷ places_of has_value (place + 1) vs else places_of has_value (place + 1) vs

-- the bits of the first three places
abbrev pub track_bits : Bits → TrackBits
track_bits bits = record { first = bits 0; second = bits 1; third = bits 2 }

-- a machine of known states, without its code
pub record TransitionTable : Type 0 where
  pub states : ℕ
  pub start : TrackBits → ℕ
  pub step : ℕ → TrackBits → ℕ
  pub sign : ℕ → Sign

-- what is found of it: all of its states, by the bits of these tracks
abbrev pub findings_of : TransitionTable → List ℕ → List ℕ → Findings
findings_of table truth letters = record {
  count = table.states;
  starts = Tabulated (lead_by table.start table.step None) truth zero_bits;
  steps = λ state. Tabulated (lead_by table.start table.step (Some state)) letters zero_bits;
  sign_of = table.sign;
  most_nodes = max (most_nodes truth) (most_nodes letters);
  LacksNumber = ⊥;
}

-- as a machine over words, whose variables are those of the tracks
abbrev pub machine_of : TransitionTable → List Variable → Machine ℕ
machine_of table variables = record {
  start = λ truth. table.start (track_bits (truth_bits variables truth));
  step = λ state letter. table.step state (track_bits (letter_bits variables letter));
}

-- the sign of a word
abbrev pub sign_by : TransitionTable → List Variable → Word → Sign
sign_by table variables word = table.sign (end_of (machine_of table variables) word)

-- a content has the machine's states: as many, and letters behind each lead to the sign to which they lead behind that of the machine
pub record HasStatesOf (table : TransitionTable) (variables : List Variable) (content : Content Sign) : Type 0 where
  pub count : length content.states ≡ table.states
  pub signs :
      (state : ℕ) (letters : List (List Bool)) → state < table.states → AreLetters variables letters
      → sign_at content (state_after content state letters) ≡ Some (table.sign (after (machine_of table variables) state letters))

-- the start and each step lead to a state
pub record IsClosedTable (table : TransitionTable) : Type 0 where
  pub start : (bits : TrackBits) → table.start bits < table.states
  pub step : (state : ℕ) (bits : TrackBits) → state < table.states → table.step state bits < table.states

-- the machine has the sign Outside at the words that encode no assignment alone, and in WS1S zeros at the end of another
-- word do not change its sign
pub record TellsWords (mode : Mode) (variables : List Variable) (table : TransitionTable) : Type 0 where
  pub encodings : (word : Word) → IsWordOver variables word → IsEncoding mode variables word ↔ (sign_by table variables word ≢ Outside)
  pub settled :
      mode ≡ Ws1s → (word : Word) → IsWordOver variables word → IsEncoding Ws1s variables word
      → sign_by table variables (with_zero_letter variables word) ≡ sign_by table variables word
