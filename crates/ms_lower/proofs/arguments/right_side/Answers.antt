use Rattle.ms_lower.proofs.ValueLists.{side_within}
use Rattle.ms_lower.proofs.arguments.right_side.Goals as goal

pub returns : goal.returns
returns c = side_within c.args.bindings.now c.args.i c.index-bindings-i.result c.requires c.index-bindings-i.is
