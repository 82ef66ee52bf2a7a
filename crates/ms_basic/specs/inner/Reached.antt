-- Machines each of whose states is reached.
use Rattle.std.specs.Prelude.{◌≡◌, ℕ, ◌<◌, List, All}
use Rattle.ms_logic.specs.Assignment.{Variable}
use Rattle.ms_logic_words.specs.Content.{is_truth_value}
use Rattle.ms_dfa_explore.specs.declared.small.TrackBits.{TrackBits}
use Rattle.ms_dfa_explore.specs.Small.{TransitionTable, zero_bits}
use Rattle.ms_dfa_explore.specs.Tracks.{distinct}
use Rattle.ms_basic.specs.inner.Apart.{AreBitsOver, AreOf, IsLetterOver, state_by}
use Rattle.ms_basic.specs.inner.Reading.{wired, wiring_of}

-- letters of so many operands lead from the start to a state, where no operand is a truth value
abbrev pub IsReached : ℕ → TransitionTable → ℕ → Type 0
IsReached count table state = (letters : List TrackBits) × All (AreOf count) letters × (state_by table (table.start zero_bits) letters ≡ state)

-- and so they do to any state of the machine
abbrev pub HasStatesReached : ℕ → TransitionTable → Type 0
HasStatesReached count table = (state : ℕ) → state < table.states → IsReached count table state

-- truth values and letters over these tracks lead from the start to a state
abbrev pub IsReachedBy : List Variable → TransitionTable → ℕ → Type 0
IsReachedBy tracks table state =
    (truth : TrackBits) × AreBitsOver is_truth_value tracks truth
    × (letters : List TrackBits) × All (IsLetterOver tracks) letters × (state_by table (table.start truth) letters ≡ state)

abbrev pub HasStatesReachedBy : List Variable → TransitionTable → Type 0
HasStatesReachedBy tracks table = (state : ℕ) → state < table.states → IsReachedBy tracks table state

-- over the tracks of operands, of which some may have one track
abbrev pub HasStatesReachedOver : List Variable → TransitionTable → Type 0
HasStatesReachedOver operands table = HasStatesReachedBy (distinct operands) (wired (wiring_of operands (distinct operands)) table)
