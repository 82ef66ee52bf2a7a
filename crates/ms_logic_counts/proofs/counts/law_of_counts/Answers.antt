use Rattle.ms_logic_counts.proofs.CountLemmas.{counts_exist}
use Rattle.ms_logic_counts.proofs.counts.law_of_counts.Goals as goal

pub returns : goal.returns
returns g c = record { exist = counts_exist _ _ }
