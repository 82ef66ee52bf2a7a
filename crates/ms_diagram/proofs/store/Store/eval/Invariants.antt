use Rattle.ms_arena.specs.Halves.{size_of}
use Rattle.ms_diagram.proofs.EvalLemmas.{OnTheWay}
use Rattle.ms_diagram.proofs.store.Store.eval.Given as goal

abbrev pub invariant-loop-at : goal.invariant-loop-at
invariant-loop-at l = OnTheWay l.self.nodes l.fn.root l.bits l.at

abbrev pub decreases-loop-at : goal.decreases-loop-at
decreases-loop-at l = size_of l.at
