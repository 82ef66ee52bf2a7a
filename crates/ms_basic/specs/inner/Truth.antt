-- The machine of a truth value.
use Rattle.std.specs.Prelude.{if◌then◌else◌}
use Rattle.ms_dfa_explore.specs.Small.{TransitionTable}
use Rattle.ms_basic.specs.Verdict.{sign_by_contradiction}

abbrev pub truth_table : TransitionTable
truth_table = record { states = 2; start = λ bits. if bits.first then 1 else 0; step = λ state bits. state; sign = sign_by_contradiction }
