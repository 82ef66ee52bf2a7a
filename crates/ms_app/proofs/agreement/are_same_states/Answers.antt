use Rattle.std.proofs.lemmas.Slice.Eq.{slice_eq-Decides}
use Rattle.ms_app.proofs.EqualLemmas.{state_decides}
use Rattle.ms_app.proofs.agreement.are_same_states.Goals as goal

pub returns : goal.returns
returns c = slice_eq-Decides state_decides c.args.left.now c.args.right.now c.eq.result c.eq.ensures
