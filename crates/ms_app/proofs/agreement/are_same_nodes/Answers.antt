use Rattle.std.proofs.lemmas.Slice.Eq.{slice_eq-Decides}
use Rattle.ms_app.proofs.EqualLemmas.{node_decides}
use Rattle.ms_app.proofs.agreement.are_same_nodes.Goals as goal

pub returns : goal.returns
returns c = slice_eq-Decides node_decides c.args.left.now c.args.right.now c.eq.result c.eq.ensures
