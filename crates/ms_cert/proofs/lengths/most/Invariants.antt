use Rattle.ms_cert.specs.inner.Lengths.{AreMost}
use Rattle.ms_cert.proofs.lengths.most.Given as goal

-- the most of the nodes so far
abbrev pub invariant-loop-node : goal.invariant-loop-node
invariant-loop-node l = AreMost l.plain.nodes l.words l.known l.node-index
