-- The machine of x = y + n. In the state 3 neither number has been met, in 4 x alone; in 5 y alone, and more than n positions
-- ago; and in 5 + k, where k is from 1 to n, y alone, and the next position is the k-th behind it.
use Rattle.std.specs.Prelude.{ℕ, zero, suc, ◌+◌, ◌==◌, Bool, ◌||◌, if◌then◌else◌}
use Rattle.ms_dfa_explore.specs.Small.{TransitionTable}
use Rattle.ms_basic.specs.Verdict.{sign_by_verdict}

-- from the state in which neither number has been met, where n is 0 or not
abbrev pub plus_first : Bool → Bool → Bool → ℕ
plus_first none x y = if x then (if y then (if none then 1 else 2) else 4) else (if y then (if none then 5 else 6) else 3)

-- from a state in which y has been met, at the n-th position behind it or another
abbrev pub plus_at : Bool → ℕ → Bool → Bool → ℕ
plus_at last state x y = if y then 0 else (if x then (if last then 1 else 2) else (if last then 5 else suc state))

abbrev pub plus_step : ℕ → ℕ → Bool → Bool → ℕ
plus_step n zero x y = 0
plus_step n (suc zero) x y = if x || y then 0 else 1
plus_step n (suc (suc zero)) x y = if x || y then 0 else 2
plus_step n (suc (suc (suc zero))) x y = plus_first (n == 0) x y
plus_step n (suc (suc (suc (suc zero)))) x y = if x then 0 else (if y then 2 else 4)
plus_step n (suc (suc (suc (suc (suc zero))))) x y = if y then 0 else (if x then 2 else 5)
plus_step n (suc (suc (suc (suc (suc (suc j)))))) x y = plus_at (suc j == n) (suc (suc (suc (suc (suc (suc j)))))) x y

abbrev pub plus_table : ℕ → TransitionTable
plus_table n = record { states = n + 6; start = λ bits. 3; step = λ state bits. plus_step n state bits.first bits.second; sign = sign_by_verdict }
