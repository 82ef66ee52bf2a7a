use Rattle.ms_logic_core.proofs.SpreadFormulas.{spread_keeps_value}
use Rattle.ms_logic_core.proofs.laws.laws_of_spread.Goals as goal

pub returns : goal.returns
returns c = record { keeps_value = spread_keeps_value }
