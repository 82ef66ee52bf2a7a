-- The machine of S = pconst(n). In the state 0 some position has contradicted it, and in 1 + k, where k is at most the number of
-- digits of n, the positions below k agree, and those behind the digits too.
use Rattle.std.specs.Prelude.{ℕ, zero, suc, ◌+◌, ◌==◌, Bool, if◌then◌else◌}
use Rattle.std.specs.Int.{bit_at}
use Rattle.ms_logic.specs.declared.mode.Mode.{Mode}
use Rattle.ms_logic.specs.declared.mode.Mode.TheVariants.{Ws1s, M2lStr}
use Rattle.ms_logic_words.specs.declared.sign.Sign.{Sign}
use Rattle.ms_logic_words.specs.declared.sign.Sign.TheVariants.{Yes, No}
use Rattle.ms_logic.specs.FiniteSet.{one_bits}
use Rattle.ms_logic.specs.Letters.{bound_of_set}
use Rattle.ms_dfa_explore.specs.Small.{TransitionTable}
use Rattle.ms_basic.specs.Sets.{is_same}

-- the least number above each place of a one bit
abbrev pub digits_of : ℕ → ℕ
digits_of n = bound_of_set (one_bits n)

-- the place is that of a one bit
abbrev pub is_one : ℕ → ℕ → Bool
is_one n place = bit_at n place == 1

abbrev pub bits_step : ℕ → ℕ → ℕ → Bool → ℕ
bits_step n digits zero s = 0
bits_step n digits (suc k) s = if is_same s (is_one n k) then (if k == digits then suc k else suc (suc k)) else 0

-- in WS1S no one bit may be left, and in M2L-Str those past the end of the string are
abbrev pub bits_sign : Mode → ℕ → ℕ → Sign
bits_sign mode digits zero = No
bits_sign Ws1s digits (suc k) = if k == digits then Yes else No
bits_sign M2lStr digits (suc k) = Yes

abbrev pub bits_table : Mode → ℕ → ℕ → TransitionTable
bits_table mode n digits = record { states = digits + 2; start = λ bits. 1; step = λ state bits. bits_step n digits state bits.first; sign = bits_sign mode digits }
