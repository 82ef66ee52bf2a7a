use Rattle.ms_diagram.specs.Numbering.{AreOwnPairs}
use Rattle.ms_diagram.proofs.pairs.Pairs.own.Given as goal

-- the pairs so far
abbrev pub invariant-loop-number : goal.invariant-loop-number
invariant-loop-number l = AreOwnPairs l.number l.pairs
