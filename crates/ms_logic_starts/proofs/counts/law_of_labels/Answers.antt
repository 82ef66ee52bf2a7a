use Rattle.ms_logic_starts.proofs.AtLeastLemmas.{at_most_labels}
use Rattle.ms_logic_starts.proofs.counts.law_of_labels.Goals as goal

pub returns : goal.returns
returns g c = record { at_most = λ n a b. at_most_labels _ _ _ a b n }
