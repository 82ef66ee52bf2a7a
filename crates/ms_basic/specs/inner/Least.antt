-- The machine of x = min S. In the state 1 the number was the first member; in 3 the number is 0, and the set has had no member
-- so far. In 4 no position has been read; in 5 the number has not been met and the set has had no member, and in 6 it has had
-- one.
use Rattle.std.specs.Prelude.{ℕ, zero, suc, Bool, if◌then◌else◌}
use Rattle.ms_logic_words.specs.declared.sign.Sign.{Sign}
use Rattle.ms_logic_words.specs.declared.sign.Sign.TheVariants.{Yes, No, Outside}
use Rattle.ms_dfa_explore.specs.Small.{TransitionTable}

abbrev pub least_step : ℕ → Bool → Bool → ℕ
least_step zero x s = 0
least_step (suc zero) x s = if x then 0 else 1
least_step (suc (suc zero)) x s = if x then 0 else 2
least_step (suc (suc (suc zero))) x s = if x then 0 else (if s then 2 else 3)
least_step (suc (suc (suc (suc zero)))) x s = if x then (if s then 1 else 3) else (if s then 6 else 5)
least_step (suc (suc (suc (suc (suc zero))))) x s = if x then (if s then 1 else 2) else (if s then 6 else 5)
least_step (suc (suc (suc (suc (suc (suc more)))))) x s = if x then 2 else 6

abbrev pub least_sign : ℕ → Sign
least_sign zero = Outside
least_sign (suc zero) = Yes
least_sign (suc (suc zero)) = No
least_sign (suc (suc (suc zero))) = Yes
least_sign (suc (suc (suc (suc more)))) = Outside

abbrev pub least_table : TransitionTable
least_table = record { states = 7; start = λ bits. 4; step = λ state bits. least_step state bits.first bits.second; sign = least_sign }
