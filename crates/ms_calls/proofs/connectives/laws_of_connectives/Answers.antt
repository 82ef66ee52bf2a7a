use Rattle.ms_calls.proofs.ConnectiveLemmas.{connectives_are_within_measure, connectives_need_few_pairs}
use Rattle.ms_calls.proofs.Pairs.{products_need_few_pairs}
use Rattle.ms_calls.proofs.connectives.laws_of_connectives.Goals as goal

pub returns-clause-pairs : goal.returns-clause-pairs
returns-clause-pairs c = products_need_few_pairs

pub returns-clause-few : goal.returns-clause-few
returns-clause-few c = connectives_need_few_pairs

pub returns-clause-measure : goal.returns-clause-measure
returns-clause-measure c = connectives_are_within_measure
