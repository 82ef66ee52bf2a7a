-- Machines no two of whose states are alike.
use Rattle.std.specs.Prelude.{◌≡◌, ◌≢◌, ℕ, ◌<◌, ◌≤◌, Bool, false, List, [], ◌∷◌, All}
use Rattle.ms_logic.specs.declared.mode.Order.{Order}
use Rattle.ms_logic.specs.Assignment.{Variable}
use Rattle.ms_logic_words.specs.Content.{HasValueAt, is_in_letters}
use Rattle.ms_dfa_explore.specs.declared.small.TrackBits.{TrackBits}
use Rattle.ms_dfa_explore.specs.Small.{TransitionTable, bit_at}
use Rattle.ms_dfa_explore.specs.Tracks.{distinct}
use Rattle.ms_basic.specs.inner.Reading.{wired, wiring_of}

-- the state to which letters lead from a state
abbrev pub state_by : TransitionTable → ℕ → List TrackBits → ℕ
state_by table state [] = state
state_by table state (bits ∷ letters) = state_by table (table.step state bits) letters

-- some letters of this kind lead from both states to different signs
abbrev pub AreApartBy : (TrackBits → Type 0) → TransitionTable → ℕ → ℕ → Type 0
AreApartBy IsLetter table one other =
    (letters : List TrackBits) × All IsLetter letters × (table.sign (state_by table one letters) ≢ table.sign (state_by table other letters))

-- and so it is with any two states of the machine
abbrev pub HasStatesApartBy : (TrackBits → Type 0) → TransitionTable → Type 0
HasStatesApartBy IsLetter table = (one other : ℕ) → one < other → other < table.states → AreApartBy IsLetter table one other

-- no operand past the first so many has a 1
abbrev pub AreOf : ℕ → TrackBits → Type 0
AreOf count bits = (operand : ℕ) → count ≤ operand → bit_at bits operand ≡ false

-- by letters of so many operands
abbrev pub AreApart : ℕ → TransitionTable → ℕ → ℕ → Type 0
AreApart count table one other = AreApartBy (AreOf count) table one other

abbrev pub HasStatesApart : ℕ → TransitionTable → Type 0
HasStatesApart count table = HasStatesApartBy (AreOf count) table

-- no track has a 1, but those of the variables with a value
abbrev pub AreBitsOver : (Order → Bool) → List Variable → TrackBits → Type 0
AreBitsOver has_value tracks bits = (place : ℕ) → ¬ HasValueAt tracks has_value place → bit_at bits place ≡ false

-- by letters over the tracks of operands, of which some may have one track
abbrev pub IsLetterOver : List Variable → TrackBits → Type 0
IsLetterOver tracks bits = AreBitsOver is_in_letters tracks bits

abbrev pub HasStatesApartOver : List Variable → TransitionTable → Type 0
HasStatesApartOver operands table = HasStatesApartBy (IsLetterOver (distinct operands)) (wired (wiring_of operands (distinct operands)) table)
