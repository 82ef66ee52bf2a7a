-- The machine of x = max S. In the state 1 the number is a member or 0, and the set has had none behind it; in 3 no position has
-- been read, and in 4 the number has not been met.
use Rattle.std.specs.Prelude.{ℕ, zero, suc, Bool, if◌then◌else◌}
use Rattle.ms_dfa_explore.specs.Small.{TransitionTable}
use Rattle.ms_basic.specs.Verdict.{sign_by_verdict}

abbrev pub greatest_step : ℕ → Bool → Bool → ℕ
greatest_step zero x s = 0
greatest_step (suc zero) x s = if x then 0 else (if s then 2 else 1)
greatest_step (suc (suc zero)) x s = if x then 0 else 2
greatest_step (suc (suc (suc zero))) x s = if x then 1 else 4
greatest_step (suc (suc (suc (suc more)))) x s = if x then (if s then 1 else 2) else 4

abbrev pub greatest_table : TransitionTable
greatest_table = record { states = 5; start = λ bits. 3; step = λ state bits. greatest_step state bits.first bits.second; sign = sign_by_verdict }
