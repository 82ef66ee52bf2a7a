-- The machine of x in S. In the state 3 the number has not been met.
use Rattle.std.specs.Prelude.{ℕ, zero, suc, Bool, if◌then◌else◌}
use Rattle.ms_dfa_explore.specs.Small.{TransitionTable}
use Rattle.ms_basic.specs.Verdict.{sign_by_verdict}

abbrev pub member_step : ℕ → Bool → Bool → ℕ
member_step zero x s = 0
member_step (suc zero) x s = if x then 0 else 1
member_step (suc (suc zero)) x s = if x then 0 else 2
member_step (suc (suc (suc more))) x s = if x then (if s then 1 else 2) else 3

abbrev pub member_table : TransitionTable
member_table = record { states = 4; start = λ bits. 3; step = λ state bits. member_step state bits.first bits.second; sign = sign_by_verdict }
