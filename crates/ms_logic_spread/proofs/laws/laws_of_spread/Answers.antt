use Rattle.ms_logic_spread.proofs.Spreads.{spread_keeps_value_under_names, spread_keeps_value}
use Rattle.ms_logic_spread.proofs.laws.laws_of_spread.Goals as goal

pub returns : goal.returns
returns c = record { under_names = spread_keeps_value_under_names; keeps_value = spread_keeps_value }
