-- Machines that read the bits of operands, and what they read of an assignment.
use Rattle.std.specs.Prelude.{ℕ, zero, suc, ◌==◌, Bool, false, List, [], ◌∷◌}
use Rattle.ms_logic.specs.declared.mode.Order.{Order}
use Rattle.ms_logic.specs.declared.mode.Order.TheVariants.{Zero, One, Two}
use Rattle.ms_logic.specs.Assignment.{Env, Variable}
use Rattle.ms_logic.specs.FiniteSet.{is_member}
use Rattle.ms_dfa_explore.specs.declared.small.TrackBits.{TrackBits}
use Rattle.ms_dfa_explore.specs.Small.{TransitionTable, bit_at}
use Rattle.ms_dfa_explore.specs.Tracks.{place_of}
use Rattle.ms_basic.specs.declared.reading.Wiring.{Wiring}

-- where the variable of an operand stands among the tracks, and past the third where there is no such operand
abbrev pub track_at : List Variable → List Variable → ℕ → ℕ
track_at [] tracks operand = 3
track_at (v ∷ vs) tracks zero = place_of v.name tracks
track_at (v ∷ vs) tracks (suc operand) = track_at vs tracks operand

-- the tracks of three operands
abbrev pub wiring_of : List Variable → List Variable → Wiring
wiring_of operands tracks = record { first = track_at operands tracks 0; second = track_at operands tracks 1; third = track_at operands tracks 2 }

-- the bits of the operands
abbrev pub read_at : Wiring → TrackBits → TrackBits
read_at wiring bits = record { first = bit_at bits wiring.first; second = bit_at bits wiring.second; third = bit_at bits wiring.third }

-- a machine over the bits of operands, as one over those of the tracks
abbrev pub wired : Wiring → TransitionTable → TransitionTable
wired wiring table = record {
  states = table.states;
  start = λ bits. table.start (read_at wiring bits);
  step = λ state bits. table.step state (read_at wiring bits);
  sign = table.sign;
}

-- the truth value of a variable of order 0
abbrev pub truth_of : Order → ℕ → Env → Bool
truth_of Zero x e = e.truth x
truth_of One x e = false
truth_of Two x e = false

-- the bit of a variable of order 1 or 2 at a position
abbrev pub bit_of : Order → ℕ → Env → ℕ → Bool
bit_of Zero x e position = false
bit_of One x e position = e.number x == position
bit_of Two x e position = is_member position (e.set x)

-- of the operand at a place; 0 where there is none
abbrev pub operand_truth : List Variable → ℕ → Env → Bool
operand_truth [] operand e = false
operand_truth (v ∷ vs) zero e = truth_of v.order v.name e
operand_truth (v ∷ vs) (suc operand) e = operand_truth vs operand e

abbrev pub operand_bit : List Variable → ℕ → Env → ℕ → Bool
operand_bit [] operand e position = false
operand_bit (v ∷ vs) zero e position = bit_of v.order v.name e position
operand_bit (v ∷ vs) (suc operand) e position = operand_bit vs operand e position

-- the truth values of the operands, and their bits at a position
abbrev pub operand_truths : List Variable → Env → TrackBits
operand_truths operands e = record { first = operand_truth operands 0 e; second = operand_truth operands 1 e; third = operand_truth operands 2 e }

abbrev pub operand_bits : List Variable → Env → ℕ → TrackBits
operand_bits operands e position =
    record { first = operand_bit operands 0 e position; second = operand_bit operands 1 e position; third = operand_bit operands 2 e position }

-- the state of a machine over operands behind so many positions of an assignment
abbrev pub state_behind : TransitionTable → List Variable → Env → ℕ → ℕ
state_behind table operands e zero = table.start (operand_truths operands e)
state_behind table operands e (suc position) = table.step (state_behind table operands e position) (operand_bits operands e position)
