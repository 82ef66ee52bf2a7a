-- The machine of x = n. In the state 3 the position n has been passed without the number, and in 4 + k, where k is at most n,
-- the number has not been met below the position k.
use Rattle.std.specs.Prelude.{ℕ, zero, suc, ◌+◌, ◌==◌, Bool, if◌then◌else◌}
use Rattle.ms_dfa_explore.specs.Small.{TransitionTable}
use Rattle.ms_basic.specs.Verdict.{sign_by_verdict}

-- from a state at a position, which is n or another
abbrev pub number_at : Bool → ℕ → Bool → ℕ
number_at last state x = if x then (if last then 1 else 2) else (if last then 3 else suc state)

abbrev pub number_step : ℕ → ℕ → Bool → ℕ
number_step n zero x = 0
number_step n (suc zero) x = if x then 0 else 1
number_step n (suc (suc zero)) x = if x then 0 else 2
number_step n (suc (suc (suc zero))) x = if x then 2 else 3
number_step n (suc (suc (suc (suc k)))) x = number_at (k == n) (suc (suc (suc (suc k)))) x

abbrev pub number_table : ℕ → TransitionTable
number_table n = record { states = n + 5; start = λ bits. 4; step = λ state bits. number_step n state bits.first; sign = sign_by_verdict }
