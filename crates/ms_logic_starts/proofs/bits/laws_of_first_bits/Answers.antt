use Rattle.ms_logic_starts.proofs.FirstBitsLemmas.{first_bits_leave, reached_left}
use Rattle.ms_logic_starts.proofs.bits.laws_of_first_bits.Goals as goal

pub returns-clause-reference : goal.returns-clause-reference
returns-clause-reference c = λ nodes root level first ordered valid. first_bits_leave nodes ordered root level first valid

pub returns-clause-reached : goal.returns-clause-reached
returns-clause-reached c = λ nodes root place ordered valid path. reached_left nodes ordered root place valid path
