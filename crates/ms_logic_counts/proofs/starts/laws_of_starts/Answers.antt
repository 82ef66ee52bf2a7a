use Rattle.ms_logic_counts.proofs.SetLemmas.{sets_are_counted}
use Rattle.ms_logic_counts.proofs.StartLemmas.{pairs_are_counted, references_are_counted}
use Rattle.ms_logic_counts.proofs.starts.laws_of_starts.Goals as goal

pub returns : goal.returns
returns g c = record { references = references_are_counted; pairs = pairs_are_counted; sets = sets_are_counted }
