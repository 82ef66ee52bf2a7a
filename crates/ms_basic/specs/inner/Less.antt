-- The machine of x < y. In the state 3 neither number has been met, in 4 x alone, and in 5 y alone.
use Rattle.std.specs.Prelude.{ℕ, zero, suc, Bool, ◌||◌, if◌then◌else◌}
use Rattle.ms_dfa_explore.specs.Small.{TransitionTable}
use Rattle.ms_basic.specs.Verdict.{sign_by_verdict}

abbrev pub less_step : ℕ → Bool → Bool → ℕ
less_step zero x y = 0
less_step (suc zero) x y = if x || y then 0 else 1
less_step (suc (suc zero)) x y = if x || y then 0 else 2
less_step (suc (suc (suc zero))) x y = if x then (if y then 2 else 4) else (if y then 5 else 3)
less_step (suc (suc (suc (suc zero)))) x y = if x then 0 else (if y then 1 else 4)
less_step (suc (suc (suc (suc (suc more))))) x y = if y then 0 else (if x then 2 else 5)

abbrev pub less_table : TransitionTable
less_table = record { states = 6; start = λ bits. 3; step = λ state bits. less_step state bits.first bits.second; sign = sign_by_verdict }
