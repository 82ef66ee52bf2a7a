use Rattle.ms_logic_measures.proofs.OnlySubset.{only_subset, only_true}
use Rattle.ms_logic_measures.proofs.examples.full.worked_only_contents.Goals as goal

pub returns-clause-subset : goal.returns-clause-subset
returns-clause-subset c = only_subset

pub returns-clause-encodings : goal.returns-clause-encodings
returns-clause-encodings c = only_true
