use Rattle.try_diagrams.proofs.Built.{AreParities}
use Rattle.try_diagrams.proofs.functions.parity.Given as goal

abbrev pub invariant-loop-var : goal.invariant-loop-var
invariant-loop-var l = AreParities l.store.nodes l.var l.even l.odd

abbrev pub decreases-loop-var : goal.decreases-loop-var
decreases-loop-var l = l.var
