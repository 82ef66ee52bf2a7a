use Rattle.try_built.proofs.Samples.{is_sample}
use Rattle.try_built.proofs.inclusions.inclusions.Goals as goal

pub returns : goal.returns
returns c = is_sample c.relation.result c.relation.ensures _ c.in_ok-roots.ensures c.in_ok-orders.ensures
