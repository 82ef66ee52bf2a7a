use Rattle.ms_logic_starts.proofs.RisingLemmas.{rising_distinct}
use Rattle.ms_logic_starts.proofs.starts.law_of_rising_numbers.Goals as goal

pub returns : goal.returns
returns c = record { distinct = rising_distinct }
