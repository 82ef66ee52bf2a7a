use Rattle.try_diagrams.proofs.Built.{IsChain}
use Rattle.try_diagrams.proofs.functions.chain.Given as goal

abbrev pub invariant-loop-var : goal.invariant-loop-var
invariant-loop-var l = IsChain l.store.nodes l.count l.var l.root

abbrev pub decreases-loop-var : goal.decreases-loop-var
decreases-loop-var l = l.var
