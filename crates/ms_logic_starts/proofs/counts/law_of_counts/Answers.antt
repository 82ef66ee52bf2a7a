use Rattle.ms_logic_starts.proofs.AtLeastLemmas.{at_most_count}
use Rattle.ms_logic_starts.proofs.counts.law_of_counts.Goals as goal

pub returns : goal.returns
returns g c = record { at_most = at_most_count _ _ }
