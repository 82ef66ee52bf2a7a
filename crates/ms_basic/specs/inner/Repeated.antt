-- The machines of relations that name one variable alone, and hold of each value of it, or of none.
use Rattle.std.specs.Prelude.{ℕ, zero, suc, Bool, if◌then◌else◌}
use Rattle.ms_logic_words.specs.declared.sign.Sign.{Sign}
use Rattle.ms_logic_words.specs.declared.sign.Sign.TheVariants.{Yes, No, Outside}
use Rattle.ms_dfa_explore.specs.Small.{TransitionTable}

abbrev pub sign_of_constant : Bool → Sign
sign_of_constant holds = if holds then Yes else No

-- of a number: in the state 0 it has had a second 1, in 1 one, and in 2 none
abbrev pub one_number_step : ℕ → Bool → ℕ
one_number_step zero x = 0
one_number_step (suc zero) x = if x then 0 else 1
one_number_step (suc (suc more)) x = if x then 1 else 2

abbrev pub one_number_sign : Bool → ℕ → Sign
one_number_sign holds zero = Outside
one_number_sign holds (suc zero) = sign_of_constant holds
one_number_sign holds (suc (suc more)) = Outside

abbrev pub one_number_table : Bool → TransitionTable
one_number_table holds = record { states = 3; start = λ bits. 2; step = λ state bits. one_number_step state bits.first; sign = one_number_sign holds }

-- of sets, or of no variable
abbrev pub constant_table : Bool → TransitionTable
constant_table holds = record { states = 1; start = λ bits. 0; step = λ state bits. state; sign = λ state. sign_of_constant holds }
