-- Windows of bits, read as numbers: the last bit counts 1, the one before it 2, and so on.
use Rattle.std.specs.Prelude.{ℕ, zero, suc, ◌+◌, ◌-◌, ◌*◌, ◌/◌, ◌%◌, ◌==◌, nat_lt, Bool, if◌then◌else◌}
use Rattle.std.specs.Int.{is_power_of_two}
use Rattle.ms_logic.specs.declared.mode.Mode.{Mode}
use Rattle.ms_logic.specs.declared.mode.Mode.TheVariants.{Ws1s, M2lStr}
use Rattle.ms_logic_words.specs.declared.sign.Sign.{Sign}
use Rattle.ms_logic_words.specs.declared.sign.Sign.TheVariants.{Yes, No}
use Rattle.ms_dfa_explore.specs.Small.{TransitionTable}
use Rattle.ms_basic.specs.Sets.{is_same}

-- a window with one bit more at its end
abbrev pub shifted : ℕ → Bool → ℕ
shifted window bit = 2 * window + (if bit then 1 else 0)

-- The machine of S = T + n, where the size is 2 ^ n. In the state 0 some position has contradicted it, and in 1 + w the window w
-- has the last n bits of T. The bit of S is that of T n positions ago.
abbrev pub up_step : ℕ → ℕ → Bool → Bool → ℕ
up_step size zero s t = 0
up_step size (suc window) s t = if is_same s (shifted window t / size == 1) then suc (shifted window t % size) else 0

-- in WS1S no member of T may be left, and in M2L-Str those that would go past the end of the string are
abbrev pub up_sign : Mode → ℕ → Sign
up_sign mode zero = No
up_sign Ws1s (suc window) = if window == 0 then Yes else No
up_sign M2lStr (suc window) = Yes

abbrev pub up_table : Mode → ℕ → TransitionTable
up_table mode size = record { states = size + 1; start = λ bits. 1; step = λ state bits. up_step size state bits.first bits.second; sign = up_sign mode }

-- The machine of S = T - n. In the state 0 some position has contradicted it. The others are windows of the last n bits of S, or
-- of all of them where there are fewer, with a 1 in front. The bit of T from the position n on is that of S n positions ago.
abbrev pub down_passed : ℕ → ℕ → Bool → ℕ
down_passed size window t = if is_same t (window / size == 1) then size + window % size else 0

abbrev pub down_step : ℕ → ℕ → Bool → Bool → ℕ
down_step size zero s t = 0
down_step size (suc more) s t = if nat_lt (shifted (suc more) s) (2 * size) then shifted (suc more) s else down_passed size (shifted (suc more) s - 2 * size) t

-- no member of S may be left in the window
abbrev pub down_sign : ℕ → Sign
down_sign zero = No
down_sign (suc more) = if is_power_of_two (suc more) then Yes else No

abbrev pub down_table : ℕ → TransitionTable
down_table size = record { states = 2 * size; start = λ bits. 1; step = λ state bits. down_step size state bits.first bits.second; sign = down_sign }
