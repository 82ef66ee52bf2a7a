-- The machine of a relation between sets that is tested position by position.
use Rattle.std.specs.Prelude.{ℕ, zero, suc, Bool, true, false, not, ◌&&◌, ◌||◌, if◌then◌else◌}
use Rattle.ms_dfa_explore.specs.declared.small.TrackBits.{TrackBits}
use Rattle.ms_dfa_explore.specs.Small.{TransitionTable}
use Rattle.ms_basic.specs.declared.sets.SetRelation.TheVariants.{Sub, Union, Inter, Diff}
use Rattle.ms_basic.specs.declared.sets.SetRelation.{SetRelation}
use Rattle.ms_basic.specs.Verdict.{sign_by_contradiction}

-- whether two bits are one
abbrev pub is_same : Bool → Bool → Bool
is_same true bit = bit
is_same false bit = not bit

-- whether the bits of a position agree with the relation
abbrev pub agrees : SetRelation → TrackBits → Bool
agrees Sub bits = not bits.first || bits.second
agrees Union bits = is_same bits.first (bits.second || bits.third)
agrees Inter bits = is_same bits.first (bits.second && bits.third)
agrees Diff bits = is_same bits.first (bits.second && not bits.third)

-- from the state 1, in which all positions agreed, the first that does not leads to the state 0
abbrev pub tested_step : Bool → ℕ → ℕ
tested_step agree zero = 0
tested_step agree (suc more) = if agree then 1 else 0

abbrev pub sets_table : SetRelation → TransitionTable
sets_table relation = record { states = 2; start = λ bits. 1; step = λ state bits. tested_step (agrees relation bits) state; sign = sign_by_contradiction }
