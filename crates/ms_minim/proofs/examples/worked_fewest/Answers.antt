use Rattle.ms_minim.proofs.ExampleLemmas.{one_fewest, unreached_too_many}
use Rattle.ms_minim.proofs.examples.worked_fewest.Goals as goal

pub returns-clause-fewest : goal.returns-clause-fewest
returns-clause-fewest c = one_fewest

pub returns-clause-too_many : goal.returns-clause-too_many
returns-clause-too_many c = unreached_too_many
